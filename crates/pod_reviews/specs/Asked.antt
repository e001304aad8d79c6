-- Which images an admission review asks for (Kubernetes, `admission.k8s.io/v1`).
use Rattle.std.specs.Prelude.{◌≡◌, ℕ, List, [], ◌++◌, if◌then◌else◌, Option, Some, None, Result, Ok, Err, codes, ⊤}
use Rattle.std.specs.Str.{bytes_eq}
use Rattle.serde_json.specs.Data.{Data}
use Rattle.serde_json.specs.Find.{get}
use Rattle.serde_json.specs.Written.{has_float}
use Rattle.json_tables.specs.Fields.{no_entries}
use Rattle.json_tables.specs.Member.{required, at_name}
use Rattle.json_tables.specs.Reading.{◌>>=◌, text_of, list_of}
use Rattle.pod_reviews.specs.declared.images.ReviewImage.{ReviewImage}
use Rattle.pod_reviews.specs.declared.asked.Review.{Review}
use Rattle.pod_reviews.specs.declared.asked.ReviewError.{ReviewError}
use Rattle.pod_reviews.specs.declared.asked.ReviewError.TheVariants.{Unreadable, WantOfMemory}

-- this string and no other
abbrev pub the : List ℕ → Data → Option ⊤
the text d = text_of d >>= λ found. if bytes_eq found text then Some tt else None

-- a container, by its name and its image
unfoldable pub image_of : Data → Option ReviewImage
image_of d = do
  name ← required text_of (codes "name") d
  image ← required text_of (codes "image") d
  Some (record { name = name; image = image })

-- containers that may be absent
abbrev pub some_or_absent : Option Data → Option (List ReviewImage)
some_or_absent None = Some []
some_or_absent (Some d) = list_of image_of d

abbrev pub unless_none : List ReviewImage → Option (List ReviewImage)
unless_none images = if no_entries images then None else Some images

-- at least one container
abbrev pub at_least_one : Option Data → Option (List ReviewImage)
at_least_one None = None
at_least_one (Some d) = list_of image_of d >>= unless_none

-- the images of a Pod's containers: those that run first, the main ones, and the ephemeral ones
unfoldable pub images_of : Data → Option (List ReviewImage)
images_of spec = do
  first ← at_name some_or_absent (codes "initContainers") spec
  main ← at_name at_least_one (codes "containers") spec
  later ← at_name some_or_absent (codes "ephemeralContainers") spec
  Some (first ++ main ++ later)

-- other members are passed over
unfoldable pub review_of : Data → Option Review
review_of d = do
  version ← required (the (codes "admission.k8s.io/v1")) (codes "apiVersion") d
  kind ← required (the (codes "AdmissionReview")) (codes "kind") d
  request ← get (codes "request") d
  uid ← required text_of (codes "uid") request
  object ← get (codes "object") request
  spec ← get (codes "spec") object
  images ← images_of spec
  Some (record { uid = uid; images = images })

-- a review contains no float
abbrev pub plain_review_of : Data → Option Review
plain_review_of d = if has_float d then None else review_of d

-- the review, or `Unreadable` if and only if there is none, or out of memory
abbrev pub ReadsReview : Result Review ReviewError → Option Review → Type 0
ReadsReview (Ok review) asked = asked ≡ Some review
ReadsReview (Err Unreadable) asked = asked ≡ None
ReadsReview (Err WantOfMemory) asked = ⊤
