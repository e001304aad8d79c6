-- Where UTF-8 may be cut: after a prefix of ASCII bytes, and before an ASCII byte.
use Rattle.std.proofs.Common.{◌≡◌, ℕ, ◌<◌, suc, Bool, true, false, cond, ◌||◌, ◌&&◌, ◌==◌, List, [], ◌∷◌, Some, None, length, get_or, refl, sym, subst, arith}
use Prim.Native.Nat.{zero}
use Rattle.std.specs.Prelude.{codes, nat_lt, All}
use Rattle.std.proofs.Math.Numerals.{add-one}
use Rattle.std.proofs.lemmas.Bool.Decides.{nat_tests}
use Rattle.std.proofs.lemmas.Str.{IsUtf8-from_ascii, IsCharBoundary-start, IsCharBoundary-after_ascii, IsCharBoundary-before_ascii, IsCharBoundary-end}
use Rattle.std.proofs.lemmas.Str.Ascii.{IsAscii-from_all}
use Rattle.std.proofs.lemmas.List.Sums.{prefix_len-le-length, prefix_len_passes, prefix_len_stops, AllPass-from_list_all}
use Rattle.std.specs.List.{prefix_len, list_any, list_all}
use Rattle.std.specs.Char.{is_ascii_alphanumeric}
use Rattle.std.specs.Str.{IsUtf8, IsCharBoundary}
use Rattle.oci_auth.specs.declared.grammar.Class.{Class}
use Rattle.oci_auth.specs.declared.grammar.Class.TheVariants.{Blank, Token, Plain}
use Rattle.oci_auth.specs.Grammar.{is_blank_byte, is_token_byte, is_mark, literal_len, after_byte}
use Rattle.oci_auth.specs.Bearer.{is_text, is_text_byte}
use Rattle.oci_auth.specs.Classes.{has}

blank_below : (b : ℕ) → is_blank_byte b ≡ true → b < 128
blank_below b h = grind (arith, nat_tests, h)

letter_below : (b : ℕ) → is_ascii_alphanumeric b ≡ true → b < 128
letter_below b h = grind (arith, nat_tests, h)

and_left : (a b : Bool) → (a && b) ≡ true → a ≡ true
and_left true b h = refl
and_left false b h = cc h

and_right : (a b : Bool) → (a && b) ≡ true → b ≡ true
and_right true b h = h
and_right false b h = cc h

listed_below : (marks : List ℕ) (b : ℕ) → list_all (λ m. nat_lt m 128) marks ≡ true → list_any (λ mark. mark == b) marks ≡ true → b < 128
listed_below [] b all any = cc
listed_below (mark ∷ marks) b all any = by (mark == b) refl any (λ any. listed_below marks b (and_right (nat_lt mark 128) _ all) any) where
  by : (v : Bool) → (mark == b) ≡ v → (v || list_any (λ mark. mark == b) marks) ≡ true → (list_any (λ mark. mark == b) marks ≡ true → b < 128) → b < 128
  by true is any rest = let small : nat_lt mark 128 ≡ true = and_left _ _ all in grind (arith, nat_tests, is, small)
  by false is any rest = rest any

token_below : (b : ℕ) → is_token_byte b ≡ true → b < 128
token_below b h = by (is_ascii_alphanumeric b) refl h where
  by : (v : Bool) → is_ascii_alphanumeric b ≡ v → (v || is_mark b) ≡ true → b < 128
  by true is h = letter_below b is
  by false is h = listed_below (codes "!#$%&'*+-.^_`|~") b refl h

plain_stops : (b : ℕ) → has Plain b ≡ false → b < 128
plain_stops b h = grind (arith, nat_tests, h)

-- after a prefix of ASCII bytes
after_front : (p : ℕ → Bool) (text : List ℕ) → ((b : ℕ) → p b ≡ true → b < 128) → IsUtf8 text → (n : ℕ) → n ≡ prefix_len p text → IsCharBoundary text n
after_front p text below u zero is = IsCharBoundary-start text u
after_front p text below u (suc n) is =
    let most = prefix_len-le-length p text in
    let lt : n < prefix_len p text = omega (arith, is) in
    subst (λ k. IsCharBoundary text k) (add-one n) (IsCharBoundary-after_ascii text n u (omega (arith, is, most)) (below _ (prefix_len_passes p text n 0 lt)))

-- before an ASCII byte
before_stop : (p : ℕ → Bool) (text : List ℕ) → ((b : ℕ) → p b ≡ false → b < 128) → (n : ℕ) → n ≡ prefix_len p text → IsCharBoundary text n
before_stop p text below n is = by (nat_lt n (length text)) refl where
  by : (v : Bool) → nat_lt n (length text) ≡ v → IsCharBoundary text n
  by true lt =
      let less : n < length text = grind (arith, nat_tests, lt) in
      IsCharBoundary-before_ascii text n less (below _ (subst (λ k. p (get_or text k 0) ≡ false) (sym is) (prefix_len_stops p text 0 (subst (λ k. k < length text) is less))))
  by false ge =
      let most = prefix_len-le-length p text in
      let all : n ≡ length text = grind (arith, nat_tests, ge, most, is) in
      subst (λ k. IsCharBoundary text k) (sym all) (IsCharBoundary-end text)

pub class_cuts : (class : Class) (text : List ℕ) → IsUtf8 text → (n : ℕ) → n ≡ prefix_len (has class) text → IsCharBoundary text n
class_cuts Blank text u n is = after_front is_blank_byte text blank_below u n is
class_cuts Token text u n is = after_front is_token_byte text token_below u n is
class_cuts Plain text u n is = before_stop (has Plain) text plain_stops n is

pub literal_cuts : (text : List ℕ) → IsUtf8 text → IsCharBoundary text (literal_len text)
literal_cuts [] u = IsCharBoundary-start [] u
literal_cuts (b ∷ text) u = by (b == 34 || b == 92) refl where
  by : (v : Bool) → (b == 34 || b == 92) ≡ v → IsCharBoundary (b ∷ text) (cond v 1 0)
  by true is = IsCharBoundary-after_ascii (b ∷ text) 0 u (omega arith) (grind (arith, nat_tests, is))
  by false is = IsCharBoundary-start (b ∷ text) u

text_below : (b : ℕ) → is_text_byte b ≡ true → b < 128
text_below b h = grind (arith, nat_tests, h)

all_below : (bs : List ℕ) → is_text bs ≡ true → All (λ b. b < 128) bs
all_below bs h = λ k d lt. text_below _ (AllPass-from_list_all is_text_byte bs h k d lt)

pub text_is_utf8 : (bs : List ℕ) → is_text bs ≡ true → IsUtf8 bs
text_is_utf8 bs h = IsUtf8-from_ascii bs (IsAscii-from_all bs (all_below bs h))

pub after_byte_is : (byte : ℕ) (text rest : List ℕ) → after_byte byte text ≡ Some rest → text ≡ byte ∷ rest
after_byte_is byte [] rest h = cc h
after_byte_is byte (b ∷ text) rest h = by (b == byte) refl h where
  by : (v : Bool) → (b == byte) ≡ v → cond v (Some text) None ≡ Some rest → b ∷ text ≡ byte ∷ rest
  by true is h = let same : b ≡ byte = grind (arith, nat_tests, is) in cc (same, h)
  by false is h = cc h
