-- The names of members that are put into others.
use Rattle.std.proofs.Common.{◌≡◌, ℕ, ◌&&◌, List, Bool, true, false, Option, Some, None, option_and_then, refl, sym, ap, ◌∙◌}
use Rattle.std.specs.List.{list_any}
use Rattle.std.specs.Prelude.{⊤}
use Rattle.std.specs.Str.{bytes_eq}
use Rattle.std.specs.Ordering.{nat_cmp, match_ordering}
use Rattle.std.specs.Cmp.Lexicographic.{slice_cmp}
use Rattle.std.specs.declared.cmp.Ordering.{Ordering}
use Rattle.std.specs.declared.cmp.Ordering.TheVariants.{Less, Equal, Greater}
use Rattle.std.proofs.lemmas.Map.Lookups.{exact_bytes}
use Rattle.json.specs.Json as json
use Rattle.serde_json.specs.Data.{Data, Members, no_members, member, put}
use Rattle.serde_json.specs.Read.{of_json, of_members}
use Rattle.json_tables.specs.Objects.{names_within}

-- whether a name is among these
abbrev pub among : List (List ℕ) → List ℕ → Bool
among names k = list_any (bytes_eq k) names

twice : (a w : Bool) → (a && w) ≡ (a && (a && w))
twice true w = refl
twice false w = refl

swapped : (a b w : Bool) → (a && (b && w)) ≡ (b && (a && w))
swapped true true w = refl
swapped true false w = refl
swapped false true w = refl
swapped false false w = refl

never : (a : Bool) → (a && false) ≡ false
never true = refl
never false = refl

module _ (names : List (List ℕ)) (k : List ℕ) (d : Data) where
  put_at : (l : List ℕ) (e : Data) (ms : Members) (o : Ordering) → slice_cmp nat_cmp k l ≡ o
      → names_within names (put k d ms) ≡ (among names k && names_within names ms)
      → names_within names (match_ordering o (member k d (member l e ms)) (member l d ms) (member l e (put k d ms)))
      ≡ (among names k && names_within names (member l e ms))
  put_at l e ms Less by more = refl
  put_at l e ms Equal by more = rw (exact_bytes k l by) (twice (among names l) (names_within names ms))
  put_at l e ms Greater by more = ap (λ w. among names l && w) more ∙ swapped (among names l) (among names k) (names_within names ms)

  pub names_within-put : (ms : Members) → names_within names (put k d ms) ≡ (among names k && names_within names ms)
  names_within-put no_members = refl
  names_within-put (member l e ms) = put_at l e ms (slice_cmp nat_cmp k l) refl (names_within-put ms)

-- what was found, if anything was, has these names alone or not
abbrev pub Within : List (List ℕ) → Bool → Option Members → Type 0
Within names b None = ⊤
Within names b (Some ms) = b ≡ names_within names ms

module _ (names : List (List ℕ)) where
  pub put_in : (k : List ℕ) (d : Data) (ms : Members) → among names k ≡ true → names_within names ms ≡ true → names_within names (put k d ms) ≡ true
  put_in k d ms a w = names_within-put names k d ms ∙ ap (λ x. x && names_within names ms) a ∙ w

  pub put_out : (k : List ℕ) (d : Data) (ms : Members) → among names k ≡ false → names_within names (put k d ms) ≡ false
  put_out k d ms a = names_within-put names k d ms ∙ ap (λ x. x && names_within names ms) a

  stays_out : (k : List ℕ) (d : Data) (ms : Members) → names_within names ms ≡ false → names_within names (put k d ms) ≡ false
  stays_out k d ms w = names_within-put names k d ms ∙ ap (λ x. among names k && x) w ∙ never (among names k)

  then_out : (ms : json.Members) (k : List ℕ) (old : Members) (x : Option Data)
      → ((more : Members) → names_within names more ≡ false → Within names false (of_members ms more))
      → names_within names old ≡ false → Within names false (option_and_then (λ d. of_members ms (put k d old)) x)
  then_out ms k old None further out = tt
  then_out ms k old (Some d) further out = further (put k d old) (stays_out k d old out)

  -- what is put into members of which one has another name
  pub all_out : (ms : json.Members) (old : Members) → names_within names old ≡ false → Within names false (of_members ms old)
  all_out json.no_members old out = sym out
  all_out (json.member k j ms) old out = then_out ms k old (of_json j) (all_out ms) out

  first_by : (ms : json.Members) (k : List ℕ) (old : Members) (x : Option Data) → among names k ≡ false
      → Within names false (option_and_then (λ d. of_members ms (put k d old)) x)
  first_by ms k old None a = tt
  first_by ms k old (Some d) a = all_out ms (put k d old) (put_out k d old a)

  pub first_out : (k : List ℕ) (j : json.Json) (ms : json.Members) (old : Members) → among names k ≡ false → Within names false (of_members (json.member k j ms) old)
  first_out k j ms old a = first_by ms k old (of_json j) a
