use Rattle.std.proofs.Common.{◌≡◌, refl, subst, sym, ap, ◌∙◌, rules, string_bytes}
use Rattle.std.proofs.lemmas.Str.{IsUtf8-string_bytes}
use Rattle.std.specs.Str.{IsAscii}
use Rattle.serde_json.specs.Data.{string}
use Rattle.serde_json.specs.View.{view}
use Rattle.serde_json.specs.declared.value.Value.{String, the_lemmas}
use Rattle.json_canon.specs.Plain.{IsPlain}
use Rattle.json_canon.proofs.Plains.{PlainLeft, plain_next}
use Rattle.json_canon.proofs.plain.+plain.Goals as goal

pub is_plain-returns-in-String : goal.is_plain-returns-in-String
is_plain-returns-in-String t c is =
    let seen : view (String c.in-String._text) ≡ string (string_bytes c.in-String._text) = search (rules, the_lemmas) in
    subst IsPlain (sym (ap view c.in-String.is ∙ seen)) (IsUtf8-string_bytes c.in-String._text)

pub are_plain_members-loop-name-preserved : goal.are_plain_members-loop-name-preserved
are_plain_members-loop-name-preserved t c =
    plain_next _ _ (c.in-Some.name.now, c.in-Some.member.now) (subst (PlainLeft c.args.members.now.entries) c.in-Some.ensures.steps c.loop-name.invariant)
    (subst IsAscii c.as_str.ensures.value c.if-not-is_ascii.ensures.cases) (c.if-not-is_plain.ensures refl)
