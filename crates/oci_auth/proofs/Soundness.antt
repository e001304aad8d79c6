-- A parsed element is in the grammar.
use Rattle.std.proofs.Common.{◌≡◌, ◌≢◌, inl, inr, ℕ, Bool, true, false, cond, not, ◌&&◌, ◌==◌, List, [], ◌∷◌, ◌++◌, Option, Some, None, refl, sym, ap, subst, ◌∙◌, append_assoc, append-nil, true≢false, arith}
use Rattle.std.specs.Prelude.{option_map}
use Rattle.std.specs.List.{list_all, take_while}
use Rattle.std.proofs.lemmas.Bool.Decides.{nat_tests}
use Rattle.oci_auth.specs.declared.element.Element.{Element}
use Rattle.oci_auth.specs.declared.element.Element.TheVariants.{Empty, Parameter, Begins, BreaksOff, Unreadable}
use Rattle.oci_auth.specs.Grammar.{is_blank_byte, is_token_byte, is_empty, is_blank, past_blanks, token_in, past_token, after_byte, unquoted, string_or_token, value_in, assigned, parameter_in}
use Rattle.oci_auth.specs.Element.{element_of, element_in, after_token, added, begun, scheme_or_parameter}
use Rattle.oci_auth.specs.Words.{Blanks, Token, Unescapes, Value, IsParameter, AddsParameter, FirstParameter, BeginsChallenge, BeginsScheme, is_plain_byte, begins, behind_comma}
use Rattle.oci_auth.proofs.Cuts.{front_all, rest_stops, cut_whole, begins_append, begins_front, all_begins, and_left, and_right}
use Rattle.oci_auth.proofs.Quotes.{quote_ends, plain_byte, literal_byte, unquoted-nil}
use Rattle.oci_auth.proofs.ElementReadings.{blanks_passed}

mapped : (f : List ℕ → List ℕ) (o : Option (List ℕ)) (v : List ℕ) → option_map f o ≡ Some v → (w : List ℕ) × (o ≡ Some w) × (v ≡ f w)
mapped f None v h = cc h
mapped f (Some w) v h = (w, refl, cc h)

given : {A : Type 0} (v : Bool) (x w : A) → cond v (Some x) None ≡ Some w → (v ≡ true) × (w ≡ x)
given true x w h = (refl, cc h)
given false x w h = cc h

-- the content of a quoted string, and what follows its closing quote
record StringFront (text content : List ℕ) : Type 0 where
  inner : List ℕ
  back : List ℕ
  is : text ≡ inner ++ 34 ∷ back
  says : Unescapes inner content
  behind : Blanks back

string_closed : (b : ℕ) (text content : List ℕ) → b ≡ 34 → unquoted (b ∷ text) ≡ Some content → StringFront (b ∷ text) content
string_closed b text content same h =
    let both = given (is_blank text) [] content (sym (ap (λ c. unquoted (c ∷ text)) same ∙ quote_ends text) ∙ h) in
    record { inner = []; back = text; is = ap (λ c. c ∷ text) same; says = subst (Unescapes []) (sym both.1) Unescapes.nothing; behind = both.0 }

string_plain : (b : ℕ) (text content : List ℕ) → (b == 34) ≡ false → (b == 92) ≡ false → ((w : List ℕ) → unquoted text ≡ Some w → StringFront text w) → unquoted (b ∷ text) ≡ Some content → StringFront (b ∷ text) content
string_plain b text content quote slash more h =
    let one = mapped (λ w. b ∷ w) (unquoted text) content (sym (plain_byte b text quote slash) ∙ h) in
    let front = more one.0 one.1 in
    let plain : is_plain_byte b ≡ true = ap (λ v. not v && not (b == 92)) quote ∙ ap not slash in
    record { inner = b ∷ front.inner; back = front.back; is = ap (λ t. b ∷ t) front.is; says = subst (Unescapes (b ∷ front.inner)) (sym one.2) (Unescapes.plain b front.inner one.0 plain front.says); behind = front.behind }

string_literal : (b c : ℕ) (text content : List ℕ) → b ≡ 92 → ((w : List ℕ) → unquoted text ≡ Some w → StringFront text w) → unquoted (b ∷ c ∷ text) ≡ Some content → StringFront (b ∷ c ∷ text) content
string_literal b c text content same more h =
    let one = mapped (λ w. c ∷ w) (unquoted text) content (sym (ap (λ x. unquoted (x ∷ c ∷ text)) same ∙ literal_byte c text) ∙ h) in
    let front = more one.0 one.1 in
    record { inner = 92 ∷ c ∷ front.inner; back = front.back; is = ap (λ x. x ∷ c ∷ text) same ∙ ap (λ t. 92 ∷ c ∷ t) front.is; says = subst (Unescapes (92 ∷ c ∷ front.inner)) (sym one.2) (Unescapes.literal c front.inner one.0 front.says); behind = front.behind }

lone_slash : (content : List ℕ) → unquoted (92 ∷ []) ≡ Some content → ⊥
unfolding unquoted
lone_slash content h = cc h

string_front : (text content : List ℕ) → unquoted text ≡ Some content → StringFront text content
string_front [] content h = absurd (cc (unquoted-nil, h))
string_front (b ∷ []) content h = by (b == 34) (b == 92) refl refl where
  by : (q s : Bool) → (b == 34) ≡ q → (b == 92) ≡ s → StringFront (b ∷ []) content
  by true s is_q is_s = string_closed b [] content (grind (arith, nat_tests, is_q)) h
  by false true is_q is_s = let same : b ≡ 92 = grind (arith, nat_tests, is_s) in absurd (lone_slash content (ap (λ x. unquoted (x ∷ [])) (sym same) ∙ h))
  by false false is_q is_s = string_plain b [] content is_q is_s (λ w none. absurd (cc (unquoted-nil, none))) h
string_front (b ∷ c ∷ text) content h = by (b == 34) (b == 92) refl refl (λ w some. string_front text w some) (λ w some. string_front (c ∷ text) w some) where
  by : (q s : Bool) → (b == 34) ≡ q → (b == 92) ≡ s → ((w : List ℕ) → unquoted text ≡ Some w → StringFront text w) → ((w : List ℕ) → unquoted (c ∷ text) ≡ Some w → StringFront (c ∷ text) w) → StringFront (b ∷ c ∷ text) content
  by true s is_q is_s later next = string_closed b (c ∷ text) content (grind (arith, nat_tests, is_q)) h
  by false true is_q is_s later next = string_literal b c text content (grind (arith, nat_tests, is_s)) later h
  by false false is_q is_s later next = string_plain b (c ∷ text) content is_q is_s next h

-- a value followed by white space
record ValueFront (text value : List ℕ) : Type 0 where
  written : List ℕ
  back : List ℕ
  is : text ≡ written ++ back
  value_is : Value written value
  behind : Blanks back

some_token : (text : List ℕ) → is_empty text ≡ false → text ≢ []
some_token text h e = absurd (true≢false (sym (ap is_empty e) ∙ h))

token_front : (text value : List ℕ) → cond (not (is_empty (token_in text)) && is_blank (past_token text)) (Some (token_in text)) None ≡ Some value → ValueFront text value
token_front text value h =
    let both = given (not (is_empty (token_in text)) && is_blank (past_token text)) (token_in text) value h in
    let some : is_empty (token_in text) ≡ false = not_true (is_empty (token_in text)) (and_left (not (is_empty (token_in text))) (is_blank (past_token text)) both.0) in
    record {
      written = token_in text;
      back = past_token text;
      is = cut_whole is_token_byte text;
      value_is = inl ((some_token (token_in text) some, front_all is_token_byte text), both.1);
      behind = and_right (not (is_empty (token_in text))) (is_blank (past_token text)) both.0;
    } where
      not_true : (v : Bool) → not v ≡ true → v ≡ false
      not_true true h = cc h
      not_true false h = refl

value_front : (text value : List ℕ) → value_in text ≡ Some value → ValueFront text value
unfolding value_in
value_front [] value h = cc h
value_front (b ∷ text) value h = by (b == 34) refl h where
  by : (v : Bool) → (b == 34) ≡ v → string_or_token (b ∷ text) (cond v (Some text) None) ≡ Some value → ValueFront (b ∷ text) value
  by true is h =
      let same : b ≡ 34 = grind (arith, nat_tests, is) in
      let front = string_front text value h in
      record {
        written = 34 ∷ (front.inner ++ 34 ∷ []);
        back = front.back;
        is = (λ i. same i ∷ front.is i) ∙ ap (λ t. 34 ∷ t) (sym (append_assoc front.inner (34 ∷ []) front.back));
        value_is = inr (record { inner = front.inner; is = refl; says = front.says });
        behind = front.behind;
      }
  by false is h = token_front (b ∷ text) value h

-- a parameter followed by white space
record ParameterFront (text : List ℕ) (parameter : List ℕ × List ℕ) : Type 0 where
  word : List ℕ
  back : List ℕ
  is : text ≡ word ++ back
  parameter_is : IsParameter word parameter
  behind : Blanks back

assigned_front : (name gap rest : List ℕ) (parameter : List ℕ × List ℕ) → list_all is_token_byte name ≡ true → Blanks gap → assigned name (Some rest) ≡ Some parameter → ParameterFront (name ++ (gap ++ 61 ∷ rest)) parameter
assigned_front name gap rest parameter token blanks h = by (is_empty name) refl (value_in rest) refl h where
  by : (v : Bool) → is_empty name ≡ v → (o : Option (List ℕ)) → value_in rest ≡ o → cond v None (option_map (λ value. (name, value)) o) ≡ Some parameter → ParameterFront (name ++ (gap ++ 61 ∷ rest)) parameter
  by true some o is h = cc h
  by false some None is h = cc h
  by false some (Some value) is h =
      let front = value_front rest value is in
      let same : (name, value) ≡ parameter = cc h in
      subst (ParameterFront (name ++ (gap ++ 61 ∷ rest))) same (record {
        word = name ++ (gap ++ 61 ∷ front.written);
        back = front.back;
        is = ap (λ t. name ++ (gap ++ 61 ∷ t)) front.is ∙ sym (append_assoc name (gap ++ 61 ∷ front.written) front.back ∙ ap (λ t. name ++ t) (append_assoc gap (61 ∷ front.written) front.back));
        parameter_is = record { gap = gap; written = front.written; is = refl; name = (some_token name some, token); blanks = blanks; value = front.value_is };
        behind = front.behind;
      })

after_is : (c : ℕ) (text rest : List ℕ) → after_byte c text ≡ Some rest → text ≡ c ∷ rest
after_is c [] rest h = cc h
after_is c (b ∷ text) rest h = by (b == c) refl h where
  by : (v : Bool) → (b == c) ≡ v → cond v (Some text) None ≡ Some rest → b ∷ text ≡ c ∷ rest
  by true is h = let same : b ≡ c = grind (arith, nat_tests, is) in cc (same, h)
  by false is h = cc h

-- a text split into its token, the white space after it, and the rest
token_gap : (text : List ℕ) → text ≡ token_in text ++ (take_while is_blank_byte (past_token text) ++ past_blanks (past_token text))
token_gap text = cut_whole is_token_byte text ∙ ap (λ t. token_in text ++ t) (cut_whole is_blank_byte (past_token text))

parameter_front : (text : List ℕ) (parameter : List ℕ × List ℕ) → parameter_in text ≡ Some parameter → ParameterFront text parameter
unfolding parameter_in
parameter_front text parameter h = by (after_byte 61 (past_blanks (past_token text))) refl h where
  by : (o : Option (List ℕ)) → after_byte 61 (past_blanks (past_token text)) ≡ o → assigned (token_in text) o ≡ Some parameter → ParameterFront text parameter
  by None is h = cc h
  by (Some rest) is h =
      let gap = take_while is_blank_byte (past_token text) in
      subst (λ t. ParameterFront t parameter) (sym (token_gap text ∙ ap (λ t. token_in text ++ (gap ++ t)) (after_is 61 _ rest is)))
      (assigned_front (token_in text) gap rest parameter (front_all is_token_byte text) (front_all is_blank_byte (past_token text)) h)

behind_stops : (p : ℕ → Bool) (tail : Option (List ℕ)) → p 44 ≡ false → begins p (behind_comma tail) ≡ false
behind_stops p None h = refl
behind_stops p (Some text) h = h

-- a scheme begins the text, whatever elements follow
abbrev pub IsBegun : List ℕ → Type 0
IsBegun part = (tail : Option (List ℕ)) → BeginsScheme (part ++ behind_comma tail)

scheme_begun : (front token gap rest : List ℕ) → Blanks front → Token token → Blanks gap → begins is_token_byte (gap ++ rest) ≡ false → begins is_blank_byte rest ≡ false → begins (λ b. b == 61) rest ≡ false → IsBegun (front ++ (token ++ (gap ++ rest)))
scheme_begun front token gap rest before is blanks ends no_blank no_value tail =
    let back = behind_comma tail in
    let text = (gap ++ rest) ++ back in
    let passed : past_blanks text ≡ rest ++ back = ap past_blanks (append_assoc gap rest back) ∙ blanks_passed gap (rest ++ back) blanks (begins_append is_blank_byte rest back no_blank (behind_stops is_blank_byte tail refl)) in
    record {
      front = front;
      scheme = token;
      rest = text;
      is = append_assoc front (token ++ (gap ++ rest)) back ∙ ap (λ t. front ++ t) (append_assoc token (gap ++ rest) back);
      before = before;
      token = is;
      ends = begins_append is_token_byte (gap ++ rest) back ends (behind_stops is_token_byte tail refl);
      no_value = ap (begins (λ b. b == 61)) passed ∙ begins_append (λ b. b == 61) rest back no_value (behind_stops (λ b. b == 61) tail refl);
    }

-- what an element means for its text
abbrev pub IsRead : Element → List ℕ → Type 0
IsRead Empty part = Blanks part
IsRead (Parameter parameter) part = AddsParameter part parameter
IsRead (Begins challenge) part = BeginsChallenge part challenge × IsBegun part
IsRead BreaksOff part = IsBegun part
IsRead Unreadable part = Unit {0}

-- a parameter without white space before it continues the scheme
spaced : (gap rest : List ℕ) (parameter : List ℕ × List ℕ) → Blanks gap → begins is_token_byte (gap ++ rest) ≡ false → ParameterFront rest parameter → FirstParameter (gap ++ rest) (parameter ∷ [])
spaced [] rest parameter blanks ends front =
    let name = front.parameter_is.name in
    let starts : begins is_token_byte rest ≡ true = ap (begins is_token_byte) front.is ∙ begins_front is_token_byte front.word front.back true (λ e. absurd (word_some front.word parameter front.parameter_is e)) (ap (begins is_token_byte) front.parameter_is.is ∙ begins_front is_token_byte parameter.0 _ true name.0 (all_begins is_token_byte parameter.0 name.0 name.1)) in
    absurd (true≢false (sym starts ∙ ends))
  where
    word_some : (word : List ℕ) (parameter : List ℕ × List ℕ) → IsParameter word parameter → word ≡ [] → ⊥
    word_some word parameter is e = true≢false (sym (begins_front is_token_byte parameter.0 (is.gap ++ 61 ∷ is.written) true is.name.0 (all_begins is_token_byte parameter.0 is.name.0 is.name.1)) ∙ ap (begins is_token_byte) (sym is.is ∙ e))
spaced (b ∷ gap) rest parameter blanks ends front =
    inr (
      b,
      gap ++ rest,
      parameter,
      refl,
      and_left (is_blank_byte b) (list_all is_blank_byte gap) blanks,
      record { front = gap; word = front.word; back = front.back; is = ap (λ t. gap ++ t) front.is; before = and_right (is_blank_byte b) (list_all is_blank_byte gap) blanks; parameter_is = front.parameter_is; behind = front.behind },
      refl,
    )

adds_here : (front token gap rest : List ℕ) (parameter : List ℕ × List ℕ) → Blanks front → ParameterFront (token ++ (gap ++ 61 ∷ rest)) parameter → AddsParameter (front ++ (token ++ (gap ++ 61 ∷ rest))) parameter
adds_here front token gap rest parameter before it = record { front = front; word = it.word; back = it.back; is = ap (λ t. front ++ t) it.is; before = before; parameter_is = it.parameter_is; behind = it.behind }

-- a token, white space, and a byte that is neither
after_gap : (front token gap rest : List ℕ) → Blanks front → Token token → Blanks gap → begins is_token_byte (gap ++ rest) ≡ false → begins is_blank_byte rest ≡ false → IsRead (after_token token rest) (front ++ (token ++ (gap ++ rest)))
after_gap front token gap [] before is blanks ends no_blank = (
  record { front = front; rest = gap ++ []; is = refl; before = before; scheme = is; params = inl (subst Blanks (sym (append-nil gap)) blanks, refl) },
  scheme_begun front token gap [] before is blanks ends refl refl,
)
after_gap front token gap (b ∷ rest) before is blanks ends no_blank = by (b == 61) refl where
  by_value : (o : Option (List ℕ × List ℕ)) → assigned token (Some rest) ≡ o → IsRead (added o) (front ++ (token ++ (gap ++ 61 ∷ rest)))
  by_value None none = tt
  by_value (Some parameter) some = adds_here front token gap rest parameter before (assigned_front token gap rest parameter is.1 blanks some)

  by_parameter : (b == 61) ≡ false → (o : Option (List ℕ × List ℕ)) → parameter_in (b ∷ rest) ≡ o → IsRead (begun token o) (front ++ (token ++ (gap ++ b ∷ rest)))
  by_parameter other None none = scheme_begun front token gap (b ∷ rest) before is blanks ends no_blank other
  by_parameter other (Some parameter) some = (
    record { front = front; rest = gap ++ b ∷ rest; is = refl; before = before; scheme = is; params = spaced gap (b ∷ rest) parameter blanks ends (parameter_front (b ∷ rest) parameter some) },
    scheme_begun front token gap (b ∷ rest) before is blanks ends no_blank other,
  )

  by : (v : Bool) → (b == 61) ≡ v → IsRead (scheme_or_parameter token (b ∷ rest) (cond v (Some rest) None)) (front ++ (token ++ (gap ++ b ∷ rest)))
  by true same_byte = let same : b ≡ 61 = grind (arith, nat_tests, same_byte) in subst (λ x. IsRead (added (assigned token (Some rest))) (front ++ (token ++ (gap ++ x ∷ rest)))) (sym same) (by_value (assigned token (Some rest)) refl)
  by false other = by_parameter other (parameter_in (b ∷ rest)) refl

from_token : (front token rest : List ℕ) → Blanks front → Token token → begins is_token_byte rest ≡ false → IsRead (after_token token (past_blanks rest)) (front ++ (token ++ rest))
from_token front token rest before is ends =
    let gap = take_while is_blank_byte rest in
    let whole = cut_whole is_blank_byte rest in
    subst (λ t. IsRead (after_token token (past_blanks rest)) (front ++ (token ++ t))) (sym whole)
    (after_gap front token gap (past_blanks rest) before is (front_all is_blank_byte rest) (subst (λ t. begins is_token_byte t ≡ false) whole ends) (rest_stops is_blank_byte rest))

in_text : (front text : List ℕ) → Blanks front → IsRead (element_in text) (front ++ text)
in_text front [] before = subst Blanks (sym (append-nil front)) before
in_text front (b ∷ text) before = by (is_empty (token_in (b ∷ text))) refl where
  by : (v : Bool) → is_empty (token_in (b ∷ text)) ≡ v → IsRead (cond v Unreadable (after_token (token_in (b ∷ text)) (past_blanks (past_token (b ∷ text))))) (front ++ b ∷ text)
  by true none = tt
  by false some =
      subst (λ t. IsRead (after_token (token_in (b ∷ text)) (past_blanks (past_token (b ∷ text)))) (front ++ t)) (sym (cut_whole is_token_byte (b ∷ text)))
      (from_token front (token_in (b ∷ text)) (past_token (b ∷ text)) before (some_token (token_in (b ∷ text)) some, front_all is_token_byte (b ∷ text)) (rest_stops is_token_byte (b ∷ text)))

pub element_is : (part : List ℕ) → IsRead (element_of part) part
unfolding element_of
element_is part = subst (IsRead (element_in (past_blanks part))) (sym (cut_whole is_blank_byte part)) (in_text (take_while is_blank_byte part) (past_blanks part) (front_all is_blank_byte part))
