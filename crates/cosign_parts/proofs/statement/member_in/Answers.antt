use Rattle.std.proofs.Common.{◌≡◌, [], ◌∷◌, Some, None, option_map, option_and_then, sym, ap, ◌∙◌, arith}
use Rattle.json.specs.Token.{Token}
use Rattle.json.specs.Lex.{tokens}
use Rattle.json.specs.Reads.{token_of}
use Rattle.json.specs.Value.{value_view}
use Rattle.serde_json.specs.Read.{of_json}
use Rattle.cosign_parts.proofs.PlainTexts.{members_refused, more_follows, member_of_text}
use Rattle.cosign_parts.proofs.statement.member_in.Goals as goal

pub returns-in-Err-Invalid : goal.returns-in-Err-Invalid
returns-in-Err-Invalid c whole =
    let text = c.args.text.now in
    let ts = c.next.new.self in
    let opened : tokens text ≡ Token.begin_object ∷ ts = grind arith in
    members_refused c.args.name.now text c.utf8.text ts opened (c.last_member.ensures.invalid (grind arith))

pub returns-in-Some : goal.returns-in-Some
returns-in-Some c whole =
    let text = c.args.text.now in
    let ts = c.next.new.self in
    let opened : tokens text ≡ Token.begin_object ∷ ts = grind arith in
    let found = c.in-Ok.ensures.ok in
    let t = token_of c.in-Some.field-0 in
    let r = c.next-2.new.self in
    let more : c.last_member.new.reader ≡ t ∷ r = grind arith in
    more_follows c.args.name.now text c.utf8.text ts opened found.0 t r (found.1 ∙ ap (λ ts. Some (found.0, ts)) more)

pub returns-in_default-found : goal.returns-in_default-found
returns-in_default-found c whole =
    let text = c.args.text.now in
    let ts = c.next.new.self in
    let opened : tokens text ≡ Token.begin_object ∷ ts = grind arith in
    let found = c.in-Ok.ensures.ok in
    let ended : c.last_member.new.reader ≡ [] = grind arith in
    let none : c.in-Ok.found ≡ None = grind arith in
    ap (λ o. option_and_then of_json (option_map value_view o)) (sym none) ∙ ap (option_and_then of_json) found.2
    ∙ member_of_text c.args.name.now text c.utf8.text ts opened found.0 (found.1 ∙ ap (λ ts. Some (found.0, ts)) ended) whole

pub returns : goal.returns
returns c whole =
    let text = c.args.text.now in
    let ts = c.next.new.self in
    let opened : tokens text ≡ Token.begin_object ∷ ts = grind arith in
    let found = c.in-Ok.ensures.ok in
    let ended : c.last_member.new.reader ≡ [] = grind arith in
    let some : c.in-Ok.found ≡ Some c.in-Some-found.member = grind arith in
    c.in_ok-owned.ensures ∙ ap (λ o. option_and_then of_json (option_map value_view o)) (sym some)
    ∙ ap (option_and_then of_json) found.2
    ∙ member_of_text c.args.name.now text c.utf8.text ts opened found.0 (found.1 ∙ ap (λ ts. Some (found.0, ts)) ended) whole
