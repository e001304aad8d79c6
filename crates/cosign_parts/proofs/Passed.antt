-- The members of an object that were passed, and the last one of a name among them.
use Rattle.std.proofs.Common.{◌≡◌, ◌≤◌, ◌-◌, ℕ, List, [], ◌∷◌, Bool, true, false, cond, Option, Some, None, option_map}
use Rattle.std.proofs.Common.{bytes_eq, length, refl, sym, ap, ◌∙◌, subst, arith}
use Rattle.json.specs.Token.{Token}
use Rattle.json.specs.Json.{Json, Members, no_members, member, parse_map, read_key, skip_value, value, members}
use Rattle.json.specs.Find.{later_or, get_member}
use Rattle.json.proofs.Grammar.{members_end, members_no_key, members_fail, members_more, read_key-shorter}
use Rattle.json.proofs.Grammar.{left_none, left_some, skip_value-shorter}

-- of these members what is left is still to be read, and this is the last one of the name so far
abbrev pub Passed : List ℕ → List Token → List Token → Option Json → Type 0
Passed name start ts found =
    (n : ℕ) × (length ts ≤ n) × (f : Members → Members)
    × (members (value 126) (length start) start ≡ parse_map f (members (value 126) n ts))
    × ((ms : Members) → get_member name (f ms) ≡ later_or (get_member name ms) found)

itself : (o : Option (Members × List Token)) → o ≡ parse_map (λ ms. ms) o
itself None = refl
itself (Some p) = refl

twice : (f g : Members → Members) (o : Option (Members × List Token))
    → parse_map f (parse_map g o) ≡ parse_map (λ ms. f (g ms)) o
twice f g None = refl
twice f g (Some p) = refl

no_later : (o : Option Json) → o ≡ later_or o None
no_later None = refl
no_later (Some j) = refl

latest : (o : Option Json) (b : Bool) (j : Json) (found : Option Json)
    → later_or (later_or o (cond b (Some j) None)) found ≡ later_or o (cond b (Some j) found)
latest None true j found = refl
latest None false j found = refl
latest (Some i) b j found = refl

module _ (name : List ℕ) where
  pub begun : (ts : List Token) → Passed name ts ts None
  begun ts = (
    length ts,
    omega arith,
    (λ ms. ms),
    itself (members (value 126) (length ts) ts),
    (λ ms. no_later (get_member name ms)),
  )

  module _ (start ts : List Token) (found : Option Json) (passed : Passed name start ts found) where
    pub one_more : (k : List ℕ) (s r : List Token) (j : Json) → read_key ts ≡ Some (Some k, s)
        → value 126 s ≡ Some (j, r) → Passed name start r (cond (bytes_eq k name) (Some j) found)
    one_more k s r j named read =
        let n = passed.0 in
        let f = passed.2 in
        let less = read_key-shorter ts (Some k) s named in
        let lesser = skip_value-shorter 126 s r (ap (λ o. option_map (λ p. p.1) o) read) in (
          n - 1,
          omega (arith, passed.1, less, lesser),
          (λ ms. f (member k j ms)),
          passed.3 ∙ ap (parse_map f) (members_more (value 126) n k ts s r j (omega (arith, passed.1, less)) named read)
              ∙ twice f (member k j) (members (value 126) (n - 1) r),
          (λ ms. passed.4 (member k j ms) ∙ latest (get_member name ms) (bytes_eq k name) j found),
        )

    pub one_skipped : (k : List ℕ) (s r : List Token) → read_key ts ≡ Some (Some k, s)
        → skip_value 126 s ≡ Some r → bytes_eq k name ≡ false → Passed name start r found
    one_skipped k s r named skipped other =
        let j = left_some (value 126 s) r skipped in
        subst (Passed name start r) (ap (λ b. cond b (Some j.0) found) other) (one_more k s r j.0 named j.1)

    pub one_found : (k : List ℕ) (s r : List Token) (j : Json) → read_key ts ≡ Some (Some k, s)
        → value 126 s ≡ Some (j, r) → bytes_eq k name ≡ true → Passed name start r (Some j)
    one_found k s r j named read this =
        subst (Passed name start r) (ap (λ b. cond b (Some j) found) this) (one_more k s r j named read)

    pub all_passed : (r : List Token) → read_key ts ≡ Some (None, r)
        → (ms : Members) × (members (value 126) (length start) start ≡ Some (ms, r)) × (found ≡ get_member name ms)
    all_passed r ended =
        let f = passed.2 in (
          f no_members,
          passed.3 ∙ ap (parse_map f) (members_end (value 126) passed.0 ts r passed.1 ended),
          sym (passed.4 no_members),
        )

    pub no_key : read_key ts ≡ None → members (value 126) (length start) start ≡ None
    no_key none = passed.3 ∙ ap (parse_map passed.2) (members_no_key (value 126) passed.0 ts none)

    pub no_value : (k : List ℕ) (s : List Token) → read_key ts ≡ Some (Some k, s) → value 126 s ≡ None
        → members (value 126) (length start) start ≡ None
    no_value k s named none =
        passed.3 ∙ ap (parse_map passed.2) (members_fail (value 126) passed.0 k ts s named none)

    pub not_skipped : (k : List ℕ) (s : List Token) → read_key ts ≡ Some (Some k, s) → skip_value 126 s ≡ None
        → members (value 126) (length start) start ≡ None
    not_skipped k s named none = no_value k s named (left_none (value 126 s) none)
