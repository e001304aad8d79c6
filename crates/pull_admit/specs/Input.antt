-- The input of `review`: a review, and how its images are pulled.
use Rattle.std.specs.Prelude.{◌≡◌, ℕ, Bool, true, false, not, ◌&&◌, List, [], ◌∷◌, length, Option, Some, None, codes}
use Rattle.serde_json.specs.Data.{Data, object, string, Members, put}
use Rattle.serde_json.specs.Find.{get}
use Rattle.json_values.specs.JsonText.{plain_json_of}
use Rattle.json_tables.specs.Member.{required}
use Rattle.json_tables.specs.Objects.{only}
use Rattle.json_tables.specs.Reading.{◌>>=◌}
use Rattle.recorded_case.specs.Case.{case_of, IsReady}
use Rattle.recorded_case.specs.Members.{passing}
use Rattle.recorded_case.specs.declared.case.Case.{Case}
use Rattle.pod_reviews.specs.Asked.{review_of}
use Rattle.pull_admit.specs.declared.input.ReviewInput.{ReviewInput}

-- the members with a reference, if they have none
abbrev pub reference_added : Option Data → Members → Option Data
reference_added None ms = Some (object (put (codes "reference") (string (codes "a")) ms))
reference_added (Some d) ms = None

-- an object without `reference`, with one
abbrev pub with_reference : Data → Option Data
with_reference (object ms) = reference_added (get (codes "reference") (object ms)) ms
with_reference d = None

abbrev pub has_one : List ℕ → Bool
has_one (moment ∷ []) = true
has_one moments = false

-- one moment, and a client that does not cache
abbrev pub is_settings : Case → Bool
is_settings case = not case.caching && has_one case.moments

abbrev pub only_settings : Case → Option Case
only_settings case = passing is_settings case

-- settings are an object without `reference` that is a case with one, with one moment and without caching
unfoldable pub settings_of : Data → Option Case
settings_of d = do
  asked ← with_reference d
  case ← case_of asked
  only_settings case

-- settings and a review; no other members
unfoldable pub review_input_of : Data → Option ReviewInput
review_input_of d = do
  known ← only (codes "settings" ∷ codes "review" ∷ []) d
  review ← required review_of (codes "review") d
  settings ← required settings_of (codes "settings") d
  Some (record { settings = settings; review = review })

-- the settings and the review in a JSON text without floats
abbrev pub review_input_in : List ℕ → Option ReviewInput
review_input_in bytes = plain_json_of bytes >>= review_input_of

-- the redirects of the registry in memory all end, there is one moment, and the client does not cache
pub record IsForReview (input : ReviewInput) : Type 0 where
  pub ready : IsReady input.settings
  pub plain : input.settings.caching ≡ false
  pub once : length input.settings.moments ≡ 1
