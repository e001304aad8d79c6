use Rattle.std.proofs.Common.{sym, subst, ◌∙◌, IsUtf8}
use Rattle.serde_json.specs.View.{view}
use Rattle.json_events.specs.Canonical.{Canonical}
use Rattle.json_canon.proofs.Plains.{compact_canonical, plain_value, plain_whole}
use Rattle.json_canon.proofs.whole.plain_text.Goals as goal

pub returns-clause-text : goal.returns-clause-text
returns-clause-text c = subst (Canonical (view c.args.value.now)) (sym (c.from_vec.ensures ∙ c.in_ok-bytes.ensures.text (plain_whole _ c.requires))) (compact_canonical _ c.requires)

pub returns-clause-value : goal.returns-clause-value
returns-clause-value c = plain_value _ c.requires

pub returns-clause-utf8 : goal.returns-clause-utf8
returns-clause-utf8 c = subst IsUtf8 (sym c.from_vec.ensures) c.in_ok-bytes.ensures.utf8
