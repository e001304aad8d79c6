-- Each element of a list is parsed correctly.
use Rattle.std.proofs.Common.{◌≡◌, ◌≢◌, inl, inr, ℕ, Bool, true, false, cond, not, ◌&&◌, ◌==◌, List, [], ◌∷◌, ◌++◌, Some, None, refl, sym, ap, ◌∙◌, append_assoc, append-nil, true≢false, arith}
use Rattle.std.specs.Prelude.{option_map}
use Rattle.std.specs.List.{list_all}
use Rattle.std.proofs.lemmas.Bool.Decides.{nat_tests}
use Rattle.oci_auth.specs.declared.challenge.Challenge.{Challenge}
use Rattle.oci_auth.specs.declared.element.Element.TheVariants.{Empty, Parameter, Begins, Unreadable}
use Rattle.oci_auth.specs.Grammar.{is_blank_byte, is_token_byte, is_empty, is_blank, past_blanks, token_in, past_token, after_byte, unquoted, string_or_token, value_in, assigned, parameter_in}
use Rattle.oci_auth.specs.Element.{element_of, element_in, after_token, added, begun, scheme_or_parameter}
use Rattle.oci_auth.specs.Words.{Blanks, Token, Unescapes, Value, IsParameter, AddsParameter, FirstParameter, BeginsChallenge, begins}
use Rattle.oci_auth.proofs.Cuts.{front_is, rest_is, begins_append, begins_front, begins_apart, all_begins, both_true, is_other, not_blank, not_token}
use Rattle.oci_auth.proofs.Quotes.{quote_full, plain_byte, literal_byte}

pub not_empty : (text : List ℕ) → text ≢ [] → is_empty text ≡ false
not_empty [] some = absurd (some refl)
not_empty (b ∷ text) some = refl

-- a leading token decides that a text does not begin with other bytes
pub token_apart : (q : ℕ → Bool) (name rest : List ℕ) → ((b : ℕ) → is_token_byte b ≡ true → q b ≡ false) → Token name → begins q (name ++ rest) ≡ false
token_apart q name rest apart token = begins_front q name rest false token.0 (begins_apart is_token_byte q name apart token.1)

pub blanks_apart : (back : List ℕ) → Blanks back → begins is_token_byte back ≡ false
blanks_apart back blanks = begins_apart is_blank_byte is_token_byte back not_token blanks

pub token_read : (name rest : List ℕ) → Token name → begins is_token_byte rest ≡ false → token_in (name ++ rest) ≡ name
token_read name rest token stops = front_is is_token_byte name rest token.1 stops

pub token_passed : (name rest : List ℕ) → Token name → begins is_token_byte rest ≡ false → past_token (name ++ rest) ≡ rest
token_passed name rest token stops = rest_is is_token_byte name rest token.1 stops

pub blanks_passed : (front rest : List ℕ) → Blanks front → begins is_blank_byte rest ≡ false → past_blanks (front ++ rest) ≡ rest
blanks_passed front rest blanks stops = rest_is is_blank_byte front rest blanks stops

pub all_passed : (text : List ℕ) → Blanks text → past_blanks text ≡ []
all_passed text blanks = ap past_blanks (sym (append-nil text)) ∙ blanks_passed text [] blanks refl

pub no_byte : (c : ℕ) (text : List ℕ) → begins (λ b. b == c) text ≡ false → after_byte c text ≡ None
no_byte c [] other = refl
no_byte c (b ∷ text) other = ap (λ v. cond v (Some text) None) other

says_read : (inner content back : List ℕ) → Unescapes inner content → Blanks back → unquoted (inner ++ 34 ∷ back) ≡ Some content
says_read _ _ back Unescapes.nothing blanks = quote_full back blanks
says_read _ _ back (Unescapes.plain b text content plain says) blanks =
    let quote : (b == 34) ≡ false = grind (arith, nat_tests, plain) in
    let slash : (b == 92) ≡ false = grind (arith, nat_tests, plain) in
    plain_byte b (text ++ 34 ∷ back) quote slash ∙ ap (option_map (λ content. b ∷ content)) (says_read text content back says blanks)
says_read _ _ back (Unescapes.literal b text content says) blanks = literal_byte b (text ++ 34 ∷ back) ∙ ap (option_map (λ content. b ∷ content)) (says_read text content back says blanks)

value_read : (written back value : List ℕ) → Value written value → Blanks back → value_in (written ++ back) ≡ Some value
unfolding value_in
value_read written back value (inl (token, same)) blanks =
    let no_quote = token_apart (λ b. b == 34) written back (λ b h. is_other is_token_byte 34 b refl h) token in
    let stops = blanks_apart back blanks in
    ap (string_or_token (written ++ back)) (no_byte 34 (written ++ back) no_quote)
    ∙ (λ i. cond (not (is_empty (token_read written back token stops i)) && is_blank (token_passed written back token stops i)) (Some (token_read written back token stops i)) None)
    ∙ ap (λ v. cond (not v && is_blank back) (Some written) None) (not_empty written token.0)
    ∙ ap (λ v. cond v (Some written) None) blanks ∙ ap Some (sym same)
value_read written back value (inr quoted) blanks =
    ap (λ t. string_or_token (t ++ back) (after_byte 34 (t ++ back))) quoted.is
    ∙ ap unquoted (append_assoc quoted.inner (34 ∷ []) back) ∙ says_read quoted.inner value back quoted.says blanks

-- a parameter followed by white space
spelled : (word back : List ℕ) (parameter : List ℕ × List ℕ) (is : IsParameter word parameter) → word ++ back ≡ parameter.0 ++ (is.gap ++ 61 ∷ (is.written ++ back))
spelled word back parameter is = ap (λ t. t ++ back) is.is ∙ append_assoc parameter.0 (is.gap ++ 61 ∷ is.written) back ∙ ap (λ t. parameter.0 ++ t) (append_assoc is.gap (61 ∷ is.written) back)

gap_stops : (gap rest : List ℕ) → Blanks gap → begins is_token_byte (gap ++ 61 ∷ rest) ≡ false
gap_stops gap rest blanks = begins_append is_token_byte gap (61 ∷ rest) (blanks_apart gap blanks) refl

name_read : (word back : List ℕ) (parameter : List ℕ × List ℕ) → IsParameter word parameter → token_in (word ++ back) ≡ parameter.0
name_read word back parameter is = ap token_in (spelled word back parameter is) ∙ token_read parameter.0 (is.gap ++ 61 ∷ (is.written ++ back)) is.name (gap_stops is.gap (is.written ++ back) is.blanks)

equals_read : (word back : List ℕ) (parameter : List ℕ × List ℕ) (is : IsParameter word parameter) → past_blanks (past_token (word ++ back)) ≡ 61 ∷ (is.written ++ back)
equals_read word back parameter is =
    ap (λ t. past_blanks (past_token t)) (spelled word back parameter is)
    ∙ ap past_blanks (token_passed parameter.0 (is.gap ++ 61 ∷ (is.written ++ back)) is.name (gap_stops is.gap (is.written ++ back) is.blanks))
    ∙ blanks_passed is.gap (61 ∷ (is.written ++ back)) is.blanks refl

assigned_read : (word back : List ℕ) (parameter : List ℕ × List ℕ) (is : IsParameter word parameter) → Blanks back → assigned parameter.0 (Some (is.written ++ back)) ≡ Some parameter
assigned_read word back parameter is blanks =
    ap (λ v. cond v None (option_map (λ value. (parameter.0, value)) (value_in (is.written ++ back)))) (not_empty parameter.0 is.name.0)
    ∙ ap (option_map (λ value. (parameter.0, value))) (value_read is.written back parameter.1 is.value blanks)

pub parameter_read : (word back : List ℕ) (parameter : List ℕ × List ℕ) → IsParameter word parameter → Blanks back → parameter_in (word ++ back) ≡ Some parameter
unfolding parameter_in
parameter_read word back parameter is blanks =
    (λ i. assigned (name_read word back parameter is i) (after_byte 61 (equals_read word back parameter is i))) ∙ assigned_read word back parameter is blanks

-- a parameter begins with its name
pub parameter_apart : (q : ℕ → Bool) (word back : List ℕ) (parameter : List ℕ × List ℕ) → ((b : ℕ) → is_token_byte b ≡ true → q b ≡ false) → IsParameter word parameter → begins q (word ++ back) ≡ false
parameter_apart q word back parameter apart is = ap (begins q) (spelled word back parameter is) ∙ token_apart q parameter.0 (is.gap ++ 61 ∷ (is.written ++ back)) apart is.name

begins_some : (p : ℕ → Bool) (text : List ℕ) → begins p text ≡ true → is_empty text ≡ false
begins_some p [] h = absurd (true≢false (sym h))
begins_some p (b ∷ text) h = refl

-- an element that begins with a token
pub token_element : (front name rest : List ℕ) → Blanks front → Token name → begins is_token_byte rest ≡ false → element_of (front ++ (name ++ rest)) ≡ after_token name (past_blanks rest)
unfolding element_of
token_element front name rest before token stops =
    let starts = begins_front is_token_byte name rest true token.0 (all_begins is_token_byte name token.0 token.1) in
    ap element_in (blanks_passed front (name ++ rest) before (token_apart is_blank_byte name rest not_blank token))
    ∙ ap (λ v. cond v Empty (cond (is_empty (token_in (name ++ rest))) Unreadable (after_token (token_in (name ++ rest)) (past_blanks (past_token (name ++ rest)))))) (begins_some is_token_byte (name ++ rest) starts)
    ∙ (λ i. cond (is_empty (token_read name rest token stops i)) Unreadable (after_token (token_read name rest token stops i) (past_blanks (token_passed name rest token stops i))))
    ∙ ap (λ v. cond v Unreadable (after_token name (past_blanks rest))) (not_empty name token.0)

pub blanks_element : (part : List ℕ) → Blanks part → element_of part ≡ Empty
unfolding element_of
blanks_element part blanks = ap element_in (all_passed part blanks)

pub added_element : (part : List ℕ) (parameter : List ℕ × List ℕ) → AddsParameter part parameter → element_of part ≡ Parameter parameter
added_element part parameter adds =
    let is = adds.parameter_is in
    let rest = is.gap ++ 61 ∷ (is.written ++ adds.back) in
    ap element_of (adds.is ∙ ap (λ t. adds.front ++ t) (spelled adds.word adds.back parameter is))
    ∙ token_element adds.front parameter.0 rest adds.before is.name (gap_stops is.gap (is.written ++ adds.back) is.blanks)
    ∙ ap (after_token parameter.0) (blanks_passed is.gap (61 ∷ (is.written ++ adds.back)) is.blanks refl)
    ∙ ap added (assigned_read adds.word adds.back parameter is adds.behind)

with_params : (scheme : List ℕ) (challenge : Challenge) (params : List (List ℕ × List ℕ)) → scheme ≡ challenge.scheme → challenge.params ≡ params → Begins (record { scheme = scheme; params = params }) ≡ Begins challenge
with_params scheme challenge params same is = λ i. Begins (record { scheme = same i; params = sym is i })

after_scheme : (scheme text : List ℕ) (parameter : List ℕ × List ℕ) → is_empty text ≡ false → after_byte 61 text ≡ None → parameter_in text ≡ Some parameter → after_token scheme text ≡ Begins (record { scheme = scheme; params = parameter ∷ [] })
after_scheme scheme text parameter some no_value is =
    ap (λ v. cond v (Begins (record { scheme = scheme; params = [] })) (scheme_or_parameter scheme text (after_byte 61 text))) some
    ∙ ap (scheme_or_parameter scheme text) no_value ∙ ap (begun scheme) is

first_read : (rest : List ℕ) (challenge : Challenge) → FirstParameter rest challenge.params → after_token challenge.scheme (past_blanks rest) ≡ Begins challenge
first_read rest challenge (inl (blanks, none)) = ap (after_token challenge.scheme) (all_passed rest blanks) ∙ with_params challenge.scheme challenge [] refl none
first_read rest challenge (inr (b, more, parameter, is, blank, adds, params)) =
    let word = adds.parameter_is in
    let text = adds.word ++ adds.back in
    let starts = parameter_apart is_blank_byte adds.word adds.back parameter not_blank word in
    let passed : past_blanks rest ≡ text = ap past_blanks (is ∙ ap (λ t. b ∷ t) adds.is) ∙ blanks_passed (b ∷ adds.front) text (both_true (is_blank_byte b) (list_all is_blank_byte adds.front) blank adds.before) starts in
    let some : is_empty text ≡ false = ap is_empty (spelled adds.word adds.back parameter word) ∙ begins_some is_token_byte _ (begins_front is_token_byte parameter.0 _ true word.name.0 (all_begins is_token_byte parameter.0 word.name.0 word.name.1)) in
    ap (after_token challenge.scheme) passed
    ∙ after_scheme challenge.scheme text parameter some (no_byte 61 text (parameter_apart (λ b. b == 61) adds.word adds.back parameter (λ b h. is_other is_token_byte 61 b refl h) word)) (parameter_read adds.word adds.back parameter word adds.behind)
    ∙ with_params challenge.scheme challenge (parameter ∷ []) refl params

first_stops : (rest : List ℕ) (params : List (List ℕ × List ℕ)) → FirstParameter rest params → begins is_token_byte rest ≡ false
first_stops rest params (inl (blanks, none)) = blanks_apart rest blanks
first_stops rest params (inr (b, more, parameter, is, blank, adds, same)) = ap (begins is_token_byte) is ∙ not_token b blank

pub challenge_element : (part : List ℕ) (challenge : Challenge) → BeginsChallenge part challenge → element_of part ≡ Begins challenge
challenge_element part challenge it =
    ap element_of it.is ∙ token_element it.front challenge.scheme it.rest it.before it.scheme (first_stops it.rest challenge.params it.params) ∙ first_read it.rest challenge it.params
