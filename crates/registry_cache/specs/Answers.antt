-- The cached responses of a client, and which of them are still returned.
use Rattle.std.specs.Prelude.{ℕ, Bool, true, false, ◌&&◌, not, ◌-◌, nat_le, nat_lt, bytes_eq, if◌then◌else◌}
use Rattle.std.specs.Prelude.{List, [], ◌∷◌, ◌++◌, length, find, filter, Option, Some, None, option_and_then}
use Rattle.oci_manifests.specs.declared.document.OciManifest.{OciManifest}
use Rattle.oci_manifests.specs.declared.index.OciImageIndex.{OciImageIndex}
use Rattle.engine_rows.specs.declared.image.ImageData.{ImageData}
use Rattle.registry_cache.specs.declared.answer.Answer.{Answer}
use Rattle.registry_cache.specs.declared.answer.Answer.TheVariants.{Digest, Manifest, Image, Referrers}
use Rattle.registry_cache.specs.declared.answers.Answers.{Answers}
use Rattle.registry_cache.specs.declared.answers.Bounds.{Bounds}
use Rattle.registry_cache.specs.declared.answers.Entry.{Entry}
use Rattle.registry_cache.specs.declared.answer.Kind.{Kind}
use Rattle.registry_cache.specs.declared.answer.Kind.TheVariants as kinds
use Rattle.registry_cache.specs.Weights.{weight}

-- the call that returns such a response
abbrev pub kind_of : Answer → Kind
kind_of (Digest digest) = kinds.Digests
kind_of (Manifest document digest) = kinds.Manifests
kind_of (Image image) = kinds.Images
kind_of (Referrers index) = kinds.Referrers

abbrev pub same_kind : Kind → Kind → Bool
same_kind kinds.Digests kinds.Digests = true
same_kind kinds.Manifests kinds.Manifests = true
same_kind kinds.Images kinds.Images = true
same_kind kinds.Referrers kinds.Referrers = true
same_kind _ _ = false

-- whether the entry is of this call with this key
abbrev pub is_of : Kind → List ℕ → Entry → Bool
is_of kind key e = same_kind (kind_of e.answer) kind && bytes_eq e.key key

-- cached at `since`, which is not after `now` and less than 60 seconds before it
abbrev pub is_fresh : ℕ → ℕ → Bool
is_fresh now since = nat_le since now && nat_lt (now - since) 60

abbrev pub given_at : ℕ → Entry → Option Answer
given_at now e = if is_fresh now e.moment then Some e.answer else None

-- the response that is still returned for this key
abbrev pub fresh : Kind → List ℕ → ℕ → Answers → Option Answer
fresh kind key now k = option_and_then (given_at now) (find (is_of kind key) k.entries)

-- ---- bounds

-- the entries are at most as many and as heavy as the bounds allow; without bounds always true
abbrev pub fits : Option Bounds → List Entry → Bool
fits None es = true
fits (Some b) es = nat_le (length es) b.answers && nat_le (weight es) b.bytes

-- evicts the oldest entries until the others fit
abbrev pub within : Option Bounds → List Entry → List Entry
within bounds [] = []
within bounds (e ∷ es) = if fits bounds (e ∷ es) then e ∷ es else within bounds es

-- the entry replaces the one under its key; the latest is last
abbrev pub replaced : Entry → List Entry → List Entry
replaced e es = filter (λ other. not (is_of (kind_of e.answer) e.key other)) es ++ e ∷ []

-- the response is cached, within the bounds
abbrev pub keep : Entry → Answers → Answers
keep e k = record k { entries = within k.bounds (replaced e k.entries) }

-- ---- responses by call

abbrev pub entry : List ℕ → ℕ → Answer → Entry
entry key now answer = record { key = key; moment = now; answer = answer }

abbrev pub as_digest : Answer → Option (List ℕ)
as_digest (Digest digest) = Some digest
as_digest _ = None

abbrev pub as_manifest : Answer → Option (OciManifest × List ℕ)
as_manifest (Manifest document digest) = Some (document, digest)
as_manifest _ = None

abbrev pub as_image : Answer → Option ImageData
as_image (Image image) = Some image
as_image _ = None

abbrev pub as_referrers : Answer → Option OciImageIndex
as_referrers (Referrers index) = Some index
as_referrers _ = None
