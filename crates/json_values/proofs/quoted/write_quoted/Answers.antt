use Rattle.std.proofs.Common.{◌≡◌, refl, ◌∙◌, rules}
use Rattle.std.proofs.lemmas.Result.{IfOk-weaker}
use Rattle.serde_json.specs.Data.{string}
use Rattle.serde_json.specs.View.{view}
use Rattle.serde_json.specs.declared.value.Value.{String, the_lemmas}
use Rattle.json_values.proofs.Escapes.{quoted-same}
use Rattle.json_values.proofs.quoted.write_quoted.Goals as goal

pub returns : goal.returns
returns c =
    let seen : view (String c.in_ok-from_str.field-0) ≡ string c.args.text.now = search (rules, the_lemmas) in
    let written = rw seen at c.in_ok-written.ensures.text in
    IfOk-weaker c.new.result _ _ (λ t e. e ∙ c.as_str.ensures.value ∙ written refl ∙ quoted-same c.args.text.now) c.new.ensures
