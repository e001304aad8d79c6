use Rattle.std.proofs.Common.{sym}
use Rattle.json.specs.Reads.{token_of}
use Rattle.json_tables.proofs.Turns.{no_object, no_token, from_token}
use Rattle.json_tables.proofs.member_names.is_object.Goals as goal

pub returns-in_default : goal.returns-in_default
returns-in_default c = rw c.in_default.ensures.value.0 (no_token _)

pub returns-then-not-opens_object : goal.returns-then-not-opens_object
returns-then-not-opens_object c =
    rw c.in-Some.ensures.value (no_object _ (token_of c.in-Some.token) c.next.new.self (sym c.if-not-opens_object.ensures))

pub returns : goal.returns
returns c =
    rw c.in-Some.ensures.value (from_token _ c.are_among.result (token_of c.in-Some.token) c.next.new.self (sym c.if-not-opens_object.ensures) c.are_among.ensures)
