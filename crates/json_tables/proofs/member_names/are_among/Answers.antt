use Rattle.std.proofs.Common.{◌≡◌, Some, None, false, true, sym, arith}
use Rattle.json.specs.Json.{read_key}
use Rattle.json_tables.proofs.Turns.{other_name, at_end, no_name, no_value, one_more}
use Rattle.json_tables.proofs.member_names.are_among.Goals as goal

pub members-preserved : goal.members-preserved
members-preserved c =
    let key : read_key c.members.reader ≡ Some (Some c.in-Some.name.now, c.next_key.new.self) = rw c.in-Some.is at c.in-Ok.ensures.value in
    λ b rest. c.members.invariant b (one_more _ b c.in-Some.name.now c.members.reader c.next_key.new.self c.skip_value.new.self key (grind arith) (sym c.if-not-is_among.ensures) rest)

pub returns-in_default-found : goal.returns-in_default-found
returns-in_default-found c =
    let key : read_key c.members.reader ≡ Some (None, c.next_key.new.self) = rw c.in_default-found.is at c.in-Ok.ensures.value in
    c.members.invariant true (at_end _ c.members.reader c.next_key.new.self key)

pub returns-then-not-is_among : goal.returns-then-not-is_among
returns-then-not-is_among c =
    let key : read_key c.members.reader ≡ Some (Some c.in-Some.name.now, c.next_key.new.self) = rw c.in-Some.is at c.in-Ok.ensures.value in
    c.members.invariant false (other_name _ c.in-Some.name.now c.members.reader c.next_key.new.self key (sym c.if-not-is_among.ensures))

pub returns-then-is_err : goal.returns-then-is_err
returns-then-is_err c =
    let key : read_key c.members.reader ≡ Some (Some c.in-Some.name.now, c.next_key.new.self) = rw c.in-Some.is at c.in-Ok.ensures.value in
    c.members.invariant true (no_value _ true c.in-Some.name.now c.members.reader c.next_key.new.self key (grind arith))

pub returns : goal.returns
returns c = c.members.invariant true (no_name _ true c.members.reader c.in_default.ensures.value)
