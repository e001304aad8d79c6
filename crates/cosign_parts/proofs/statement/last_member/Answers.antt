use Rattle.std.proofs.Common.{◌≡◌, Some, None, option_map, bytes_eq, true, false, sym, ap, ◌∙◌, arith, rules}
use Rattle.json.specs.Json.{read_key}
use Rattle.json.specs.Value.{value_view}
use Rattle.cosign_parts.proofs.Passed.{begun, one_found, one_skipped, all_passed, no_key, no_value, not_skipped}
use Rattle.cosign_parts.proofs.statement.last_member.Goals as goal

pub members-init : goal.members-init
members-init c = (begun c.args.name.now c.args.reader.now, tt)

pub returns-in_err-key-clause-invalid : goal.returns-in_err-key-clause-invalid
returns-in_err-key-clause-invalid c refused =
    let l = c.members in
    no_key c.args.name.now c.args.reader.now l.reader (option_map value_view l.found) l.invariant.0 c.in_err-key.ensures.value

pub returns-in_err-read-clause-invalid : goal.returns-in_err-read-clause-invalid
returns-in_err-read-clause-invalid c refused =
    let l = c.members in
    let k = c.in-Some.key.now in
    let s = c.next_key.new.self in
    let named : read_key l.reader ≡ Some (Some k, s) = grind arith in
    no_value c.args.name.now c.args.reader.now l.reader (option_map value_view l.found) l.invariant.0 k s named
    (c.read.ensures.invalid (grind arith))

pub members-preserved-then-eq : goal.members-preserved-then-eq
members-preserved-then-eq c =
    let l = c.members in
    let k = c.in-Some.key.now in
    let s = c.next_key.new.self in
    let named : read_key l.reader ≡ Some (Some k, s) = grind arith in
    let done = c.in_ok-read.ensures in (
      one_found c.args.name.now c.args.reader.now l.reader (option_map value_view l.found) l.invariant.0 k s
          c.read.new.reader (value_view c.in_ok-read.field-0) named done.ok (sym c.if-eq.ensures),
      (done.writable, done.nests),
    )

pub members-preserved : goal.members-preserved
members-preserved c =
    let l = c.members in
    let k = c.in-Some.key.now in
    let s = c.next_key.new.self in
    let named : read_key l.reader ≡ Some (Some k, s) = grind arith in (
      one_skipped c.args.name.now c.args.reader.now l.reader (option_map value_view l.found) l.invariant.0 k s
          c.skip_value.new.self named c.in_ok-skip_value.ensures.value (sym c.if-eq.ensures),
      l.invariant.1,
    )

pub returns-in_err-skip_value-clause-invalid : goal.returns-in_err-skip_value-clause-invalid
returns-in_err-skip_value-clause-invalid c refused =
    let l = c.members in
    let k = c.in-Some.key.now in
    let s = c.next_key.new.self in
    let named : read_key l.reader ≡ Some (Some k, s) = grind arith in
    not_skipped c.args.name.now c.args.reader.now l.reader (option_map value_view l.found) l.invariant.0 k s named
    c.in_err-skip_value.ensures.value

pub returns-clause-ok : goal.returns-clause-ok
returns-clause-ok c =
    let l = c.members in
    let r = c.next_key.new.self in
    let ended : read_key l.reader ≡ Some (None, r) = grind arith in
    all_passed c.args.name.now c.args.reader.now l.reader (option_map value_view l.found) l.invariant.0 r ended
