-- What is read has what a review needs.
use Rattle.std.proofs.Common.{◌≡◌, ℕ, Bool, true, false, not, ◌&&◌, List, [], ◌∷◌, length, if◌then◌else◌, Option, Some, None, refl, subst}
use Rattle.std.specs.Prelude.{IfSome, codes}
use Rattle.serde_json.specs.Data.{Data}
use Rattle.serde_json.specs.Find.{get}
use Rattle.json_tables.specs.Member.{required}
use Rattle.json_tables.specs.Objects.{only}
use Rattle.json_tables.specs.Reading.{◌>>=◌}
use Rattle.recorded_case.specs.Case.{case_of, IsReady}
use Rattle.recorded_case.specs.declared.case.Case.{Case}
use Rattle.recorded_case.proofs.CaseParts.{through, case_ready}
use Rattle.pod_reviews.specs.Asked.{review_of}
use Rattle.pod_reviews.specs.declared.asked.Review.{Review}
use Rattle.pull_admit.specs.Input.{IsForReview, has_one, is_settings, only_settings, with_reference, settings_of, review_input_of}

-- settings that are ready for a review
abbrev pub Ready : Case → Type 0
Ready case = IsReady case × (case.caching ≡ false) × (length case.moments ≡ 1)

one_long : (moments : List ℕ) → has_one moments ≡ true → length moments ≡ 1
one_long [] h = absurd (cc h)
one_long (m ∷ []) h = refl
one_long (m ∷ n ∷ moments) h = absurd (cc h)

both : (caching one : Bool) → (not caching && one) ≡ true → (caching ≡ false) × (one ≡ true)
both true one h = absurd (cc h)
both false one h = (refl, h)

passed : (case : Case) (b : Bool) → is_settings case ≡ b → IsReady case → IfSome (if b then Some case else None) Ready
passed case true is ready = let each = both case.caching (has_one case.moments) is in (ready, each.0, one_long case.moments each.1)
passed case false is ready = tt

is_ready : (case : Case) (o : Option Case) → o ≡ Some case → IfSome o IsReady → IsReady case
is_ready case o is h = subst (λ p. IfSome p IsReady) is h

settings_ready : (d : Data) → IfSome (settings_of d) Ready
unfolding settings_of
settings_ready d = through Ready (with_reference d) (λ asked. case_of asked >>= only_settings) (λ asked given.
    through Ready (case_of asked) only_settings (λ case read. passed case (is_settings case) refl (is_ready case (case_of asked) read (case_ready asked))))

for_review : (case : Case) (review : Review) (o : Option Case) → o ≡ Some case → IfSome o Ready → IsForReview (record { settings = case; review = review })
for_review case review o is h = let ready = subst (λ p. IfSome p Ready) is h in record { ready = ready.0; plain = ready.1; once = ready.2 }

settings_in : (o : Option Data) (case : Case) → (o >>= settings_of) ≡ Some case → IfSome (o >>= settings_of) Ready
settings_in None case is = tt
settings_in (Some d) case is = settings_ready d

input_ready : (d : Data) → IfSome (review_input_of d) IsForReview
unfolding review_input_of
input_ready d = through IsForReview (only (codes "settings" ∷ codes "review" ∷ []) d) _ (λ known here.
    through IsForReview (required review_of (codes "review") d) _ (λ review there.
    through IsForReview (required settings_of (codes "settings") d) _ (λ settings read.
    for_review settings review (required settings_of (codes "settings") d) read (settings_in (get (codes "settings") d) settings read))))

pub json_ready : (o : Option Data) → IfSome (o >>= review_input_of) IsForReview
json_ready None = tt
json_ready (Some d) = input_ready d
