-- A text without spaces parses as its JSON.
use Rattle.std.proofs.Common.{◌≡◌, ◌≤◌, ℕ, List, [], ◌∷◌, ◌++◌, Option, Some, None, IsUtf8, refl, sym, ap, ◌∙◌, append-nil}
use Rattle.std.specs.Prelude.{option_and_then}
use Rattle.json.specs.Json as json
use Rattle.json.specs.Lex.{tokens}
use Rattle.json.specs.Print.{print}
use Rattle.json.specs.Token.{Token}
use Rattle.json.specs.Tree as tree
use Rattle.json.specs.Tree.{json_tokens, HasNumbers}
use Rattle.json.proofs.Printed.Tokens.{tokens-print}
use Rattle.json.proofs.Printed.Trees.{value-json_tokens, ArePrintable-json_tokens}
use Rattle.serde_json.specs.Data.{Data}
use Rattle.serde_json.specs.Read.{of_json, read, max_depth}
use Rattle.serde_json.specs.Written.{compact_text, outline}
use Rattle.serde_json.proofs.Texts.{print-outline}
use Rattle.json_values.specs.JsonText.{json_of}
use Rattle.json_values.proofs.JsonTexts.{json_of-read}

whole : (j : json.Json) → HasNumbers j → tree.depth j ≤ max_depth → json.value max_depth (tokens (print (json_tokens j))) ≡ Some (j, [])
whole j numbers shallow = ap (json.value max_depth) (tokens-print (json_tokens j) (ArePrintable-json_tokens j numbers) ∙ sym (append-nil (json_tokens j))) ∙ value-json_tokens j max_depth [] shallow

read_print : (j : json.Json) → HasNumbers j → tree.depth j ≤ max_depth → read (print (json_tokens j)) ≡ of_json j
read_print j numbers shallow = ap (λ (o : Option (json.Json × List Token)). option_and_then of_json (option_and_then (λ p. json.if_last p.0 p.1) o)) (whole j numbers shallow)

-- the text of data in any order, and what it parses as
pub json_compact : (d e : Data) → HasNumbers (outline d) → tree.depth (outline d) ≤ max_depth → IsUtf8 (compact_text d) → of_json (outline d) ≡ Some e → json_of (compact_text d) ≡ Some e
json_compact d e numbers shallow text reads = json_of-read (compact_text d) e text (ap read (sym (print-outline d)) ∙ read_print (outline d) numbers shallow ∙ reads)
