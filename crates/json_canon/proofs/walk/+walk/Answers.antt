use Rattle.std.proofs.Common.{◌≡◌, subst, sym, ap, ◌∙◌, rules, string_bytes}
use Rattle.std.proofs.lemmas.Str.{IsUtf8-string_bytes}
use Rattle.serde_json.specs.Data.{string}
use Rattle.serde_json.specs.View.{view}
use Rattle.serde_json.specs.declared.value.Value.{String, the_lemmas}
use Rattle.json_events.specs.Values.{IsValue}
use Rattle.json_canon.proofs.Walks.{MembersLeft, members_next}
use Rattle.json_canon.proofs.walk.+walk.Goals as goal

pub refusal-returns-in-String-clause-value : goal.refusal-returns-in-String-clause-value
refusal-returns-in-String-clause-value t c =
    let seen : view (String c.in-String._text) ≡ string (string_bytes c.in-String._text) = search (rules, the_lemmas) in
    subst IsValue (sym (ap view c.in-String.is ∙ seen)) (IsUtf8-string_bytes c.in-String._text)

pub refusal_of_members-loop-name-preserved : goal.refusal_of_members-loop-name-preserved
refusal_of_members-loop-name-preserved t c =
    members_next _ _ (c.in-Some._name.now, c.in-Some.member.now) (subst (MembersLeft c.args.members.now.entries) c.in-Some.ensures.steps c.loop-name.invariant)
    (sym c.in-None-refusal.ensures.first) c.in-None-refusal.ensures.value
