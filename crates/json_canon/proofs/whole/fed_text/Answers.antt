use Rattle.std.proofs.Common.{refl}
use Rattle.serde_json.specs.View.{view}
use Rattle.json_canon.proofs.Puts.{plain_refusal, put_into_none, handed_text}
use Rattle.json_canon.proofs.Texts.{canonical_utf8}
use Rattle.json_canon.proofs.whole.fed_text.Goals as goal

pub returns-in_err-put_text-clause-text : goal.returns-in_err-put_text-clause-text
returns-in_err-put_text-clause-text c =
    handed_text (view c.args.value.now) _ c.in_err-put_text.field-0.0 c.from_residual.ensures.1 (plain_refusal c.in_err-put_text.field-0.0 (view c.args.value.now) _ _ refl refl c.in_err-put_text.ensures.text)

pub returns-clause-text : goal.returns-clause-text
returns-clause-text c = put_into_none (view c.args.value.now) _ _ _ c.in_ok-put_text.ensures.text c.new-sink.ensures c.into_blob.ensures

pub returns-clause-utf8 : goal.returns-clause-utf8
returns-clause-utf8 c = canonical_utf8 (view c.args.value.now) _ c.in_ok-put_text.ensures.value (put_into_none (view c.args.value.now) _ _ _ c.in_ok-put_text.ensures.text c.new-sink.ensures c.into_blob.ensures)
