-- The images of a Pod, each with its place in the Pod's object.
use Rattle.std.specs.Prelude.{ℕ, ◌+◌, List, [], ◌∷◌, ◌++◌, Option, Some, None, codes, decimal}
use Rattle.serde_json.specs.Data.{Data}
use Rattle.serde_json.specs.Find.{get}
use Rattle.json_tables.specs.Member.{required, at_name}
use Rattle.json_tables.specs.Reading.{◌>>=◌, text_of, list_of}
use Rattle.pod_reviews.specs.Asked.{the, some_or_absent, at_least_one}
use Rattle.pod_reviews.specs.declared.images.ReviewImage.{ReviewImage}
use Rattle.pod_reviews.specs.declared.places.PlacedImage.{PlacedImage}
use Rattle.pod_reviews.specs.declared.pod.PodReview.{PodReview}
use Rattle.pod_reviews.specs.declared.places.Volume.{Volume}

-- the place of a member of an item of a list in `spec`, as a JSON Pointer (RFC 6901)
abbrev pub place_in : List ℕ → List ℕ → ℕ → List ℕ
place_in list member i = codes "/spec/" ++ list ++ codes "/" ++ decimal i ++ codes "/" ++ member

abbrev pub placed : List ℕ → List ℕ → ℕ → ReviewImage → PlacedImage
placed list member i image =
    record { name = image.name; image = image.image; place = place_in list member i }

-- the images of containers in a list of `spec`, from this index on
abbrev pub containers_from : List ℕ → ℕ → List ReviewImage → List PlacedImage
containers_from list i [] = []
containers_from list i (x ∷ xs) = placed list (codes "image") i x ∷ containers_from list (i + 1) xs

-- ---- volumes

-- the image of a volume, which is named by its reference
unfoldable pub volume_image_of : Data → Data → Option Volume
volume_image_of image d = do
  name ← required text_of (codes "name") d
  reference ← required text_of (codes "reference") image
  Some (record { image = Some (record { name = name; image = reference }) })

-- a volume has no image unless it has the member `image`
abbrev pub volume_by : Option Data → Data → Option Volume
volume_by None d = Some (record { image = None })
volume_by (Some image) d = volume_image_of image d

unfoldable pub volume_of : Data → Option Volume
volume_of d = volume_by (get (codes "image") d) d

-- volumes that may be absent
abbrev pub volumes_or_absent : Option Data → Option (List Volume)
volumes_or_absent None = Some []
volumes_or_absent (Some d) = list_of volume_of d

abbrev pub volume_from : ℕ → Option ReviewImage → List PlacedImage
volume_from i None = []
volume_from i (Some x) = placed (codes "volumes") (codes "image/reference") i x ∷ []

-- the images of volumes, from this index on
abbrev pub volumes_from : ℕ → List Volume → List PlacedImage
volumes_from i [] = []
volumes_from i (v ∷ vs) = volume_from i v.image ++ volumes_from (i + 1) vs

-- ---- the Pod

-- the images of the containers that run first, of the main ones, of the ephemeral ones, and of volumes
abbrev pub pod_images : List ReviewImage → List ReviewImage → List ReviewImage → List Volume → List PlacedImage
pod_images first main later volumes =
    containers_from (codes "initContainers") 0 first
    ++ containers_from (codes "containers") 0 main
    ++ containers_from (codes "ephemeralContainers") 0 later
    ++ volumes_from 0 volumes

unfoldable pub pod_images_of : Data → Option (List PlacedImage)
pod_images_of spec = do
  first ← at_name some_or_absent (codes "initContainers") spec
  main ← at_name at_least_one (codes "containers") spec
  later ← at_name some_or_absent (codes "ephemeralContainers") spec
  volumes ← at_name volumes_or_absent (codes "volumes") spec
  Some (pod_images first main later volumes)

-- an `AdmissionReview` of a Pod; other members are passed over
unfoldable pub pod_review_of : Data → Option PodReview
pod_review_of d = do
  version ← required (the (codes "admission.k8s.io/v1")) (codes "apiVersion") d
  kind ← required (the (codes "AdmissionReview")) (codes "kind") d
  request ← get (codes "request") d
  uid ← required text_of (codes "uid") request
  object ← get (codes "object") request
  spec ← get (codes "spec") object
  images ← pod_images_of spec
  Some (record { uid = uid; images = images })
