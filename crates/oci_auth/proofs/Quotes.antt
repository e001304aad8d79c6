-- How a quoted string is parsed by parts.
use Rattle.std.proofs.Common.{◌≡◌, ℕ, ◌+◌, ◌<◌, suc, Bool, true, false, cond, not, ◌&&◌, ◌||◌, ◌==◌, List, [], ◌∷◌, ◌++◌, length, take, drop, Option, Some, None, refl, sym, ap, subst, ◌∙◌, arith, append_assoc, append-nil}
use Rattle.std.specs.Prelude.{option_map, nat_lt}
use Rattle.std.proofs.lemmas.List.Sums.{prefix_len-drop_no, prefix_len-drop_all, prefix_len_stops}
use Rattle.std.proofs.lemmas.Bool.Decides.{nat_tests}
use Rattle.std.specs.List.{prefix_len}
use Rattle.oci_auth.specs.declared.grammar.Class.TheVariants.{Plain}
use Rattle.oci_auth.specs.Grammar.{unquoted, behind, literal_len, is_blank, after_byte}
use Rattle.oci_auth.specs.Classes.{has}

pub behind-nil : (o : Option (List ℕ)) → behind [] o ≡ o
behind-nil None = refl
behind-nil (Some x) = refl

pub behind-behind : (a b : List ℕ) (o : Option (List ℕ)) → behind a (behind b o) ≡ behind (a ++ b) o
behind-behind a b None = refl
behind-behind a b (Some x) = ap Some (sym (append_assoc a b x))

one_behind : (b : ℕ) (o : Option (List ℕ)) → option_map (λ content. b ∷ content) o ≡ behind (b ∷ []) o
one_behind b None = refl
one_behind b (Some x) = refl

pub quote_ends : (text : List ℕ) → unquoted (34 ∷ text) ≡ cond (is_blank text) (Some []) None
unfolding unquoted
quote_ends [] = refl
quote_ends (c ∷ text) = refl

pub plain_byte : (b : ℕ) (text : List ℕ) → (b == 34) ≡ false → (b == 92) ≡ false → unquoted (b ∷ text) ≡ option_map (λ content. b ∷ content) (unquoted text)
unfolding unquoted
plain_byte b [] q s = rw q refl
plain_byte b (c ∷ text) q s = rw (q, s) refl

one_more : (n : ℕ) → 1 + n ≡ suc n
one_more n = omega arith

front_step : (b : ℕ) (text : List ℕ) (n : ℕ) (v : Bool) → has Plain b ≡ v → unquoted text ≡ behind (take n text) (unquoted (drop n text)) → unquoted (b ∷ text) ≡ behind (take (cond v (1 + n) 0) (b ∷ text)) (unquoted (drop (cond v (1 + n) 0) (b ∷ text)))
front_step b text n true is so =
    let q : (b == 34) ≡ false = grind (arith, nat_tests, is) in
    let s : (b == 92) ≡ false = grind (arith, nat_tests, is) in
    rw (one_more n) (plain_byte b text q s ∙ one_behind b (unquoted text) ∙ ap (behind (b ∷ [])) so ∙ behind-behind (b ∷ []) (take n text) (unquoted (drop n text)))
front_step b text n false is so = sym (behind-nil (unquoted (b ∷ text)))

-- a prefix of plain bytes
pub plain_front : (text : List ℕ) → unquoted text ≡ behind (take (prefix_len (has Plain) text) text) (unquoted (drop (prefix_len (has Plain) text) text))
plain_front [] = sym (behind-nil (unquoted []))
plain_front (b ∷ text) = front_step b text (prefix_len (has Plain) text) (has Plain b) refl (plain_front text)

escape_step : (c : ℕ) (text : List ℕ) (v : Bool) → (c == 34 || c == 92) ≡ v → option_map (λ content. c ∷ content) (unquoted text) ≡ behind (take (cond v 1 0) (c ∷ text)) (unquoted (drop (cond v 1 0) (c ∷ text)))
escape_step c text true is = one_behind c (unquoted text)
escape_step c text false is =
    let q : (c == 34) ≡ false = grind (arith, nat_tests, is) in
    let s : (c == 92) ≡ false = grind (arith, nat_tests, is) in
    sym (plain_byte c text q s) ∙ sym (behind-nil (unquoted (c ∷ text)))

-- the character that a backslash escapes
pub escaped_front : (text : List ℕ) → unquoted (92 ∷ text) ≡ behind (take (literal_len text) text) (unquoted (drop (literal_len text) text))
unfolding unquoted
escaped_front [] = refl
escaped_front (c ∷ text) = escape_step c text (c == 34 || c == 92) refl

-- a string that begins with neither a plain byte, a quote nor a backslash is empty
pub no_mark : (text : List ℕ) → prefix_len (has Plain) text ≡ 0 → after_byte 34 text ≡ None → after_byte 92 text ≡ None → text ≡ []
no_mark [] plain quote slash = refl
no_mark (b ∷ text) plain quote slash = by (b == 34) (b == 92) refl refl where
  by : (q s : Bool) → (b == 34) ≡ q → (b == 92) ≡ s → b ∷ text ≡ []
  by true s is_q is_s = let none : cond true (Some text) None ≡ None = subst (λ v. cond v (Some text) None ≡ None) is_q quote in cc none
  by false true is_q is_s = let none : cond true (Some text) None ≡ None = subst (λ v. cond v (Some text) None ≡ None) is_s slash in cc none
  by false false is_q is_s =
      let one : cond (not (b == 92)) (1 + prefix_len (has Plain) text) 0 ≡ 0 = subst (λ v. cond (not v && not (b == 92)) (1 + prefix_len (has Plain) text) 0 ≡ 0) is_q plain in
      let two : 1 + prefix_len (has Plain) text ≡ 0 = subst (λ v. cond (not v) (1 + prefix_len (has Plain) text) 0 ≡ 0) is_s one in
      absurd (omega (arith, two))

pub quote_full : (text : List ℕ) → is_blank text ≡ true → unquoted (34 ∷ text) ≡ Some []
quote_full text h = quote_ends text ∙ rw h refl

quote_more : (text : List ℕ) → is_blank text ≡ false → unquoted (34 ∷ text) ≡ None
quote_more text h = quote_ends text ∙ rw h refl

pub read_nothing : (rest content : List ℕ) → (length rest == 0) ≡ true → behind content (unquoted rest) ≡ None
unfolding unquoted
read_nothing [] content h = refl
read_nothing (b ∷ rest) content h = let none : length (b ∷ rest) ≡ 0 = grind (arith, nat_tests, h) in absurd (omega (arith, none))

-- the content so far, and its last part
pub read_out : (text content rest plain left : List ℕ) → unquoted text ≡ behind content (unquoted rest) → unquoted rest ≡ behind plain (unquoted (34 ∷ left)) → is_blank left ≡ true → unquoted text ≡ Some (content ++ plain)
read_out text content rest plain left so by blank = so ∙ ap (behind content) (by ∙ ap (behind plain) (quote_full left blank)) ∙ ap (λ x. Some (content ++ x)) {y = plain} (append-nil plain)

pub read_none : (text content rest plain left : List ℕ) → unquoted text ≡ behind content (unquoted rest) → unquoted rest ≡ behind plain (unquoted (34 ∷ left)) → is_blank left ≡ false → unquoted text ≡ None
read_none text content rest plain left so by blank = so ∙ ap (behind content) (by ∙ ap (behind plain) (quote_more left blank))

pub unquoted-nil : unquoted [] ≡ None
unfolding unquoted
unquoted-nil = refl

-- one more part of a quoted string is parsed
pub read_on : (text content rest plain mark literal left : List ℕ) → unquoted text ≡ behind content (unquoted rest) → unquoted rest ≡ behind plain (unquoted mark) → unquoted mark ≡ behind literal (unquoted left) → unquoted text ≡ behind ((content ++ plain) ++ literal) (unquoted left)
read_on text content rest plain mark literal left so by then_by = so ∙ ap (behind content) (by ∙ ap (behind plain) then_by) ∙ behind-behind content plain _ ∙ behind-behind (content ++ plain) literal _

pub plain_stops_here : (text : List ℕ) → prefix_len (has Plain) (drop (prefix_len (has Plain) text) text) ≡ 0
plain_stops_here text = by (nat_lt (prefix_len (has Plain) text) (length text)) refl where
  by : (v : Bool) → nat_lt (prefix_len (has Plain) text) (length text) ≡ v → prefix_len (has Plain) (drop (prefix_len (has Plain) text) text) ≡ 0
  by true lt = let less : prefix_len (has Plain) text < length text = grind (arith, nat_tests, lt) in prefix_len-drop_no (has Plain) text _ 0 less (prefix_len_stops (has Plain) text 0 less)
  by false ge = prefix_len-drop_all (has Plain) text _ (grind (arith, nat_tests, ge))

-- a backslash escapes the next byte
pub literal_byte : (c : ℕ) (text : List ℕ) → unquoted (92 ∷ c ∷ text) ≡ option_map (λ content. c ∷ content) (unquoted text)
unfolding unquoted
literal_byte c text = refl
