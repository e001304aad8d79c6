-- A document by its two tables.
use Rattle.std.proofs.Common.{◌≡◌, ℕ, true, false, List, Option, Some, None, Result, Ok, Err, refl}
use Rattle.std.specs.Prelude.{is_some, ◌&&◌, IsSome, if◌then◌else◌}
use Rattle.serde_json.specs.Data.{Data}
use Rattle.serde_json.specs.Written.{has_float}
use Rattle.oci_manifests.specs.Manifest.{manifest_of}
use Rattle.oci_manifests.specs.Index.{index_of}
use Rattle.oci_manifests.specs.Document.{document_of, one_of}
use Rattle.oci_manifests.specs.declared.manifest.OciImageManifest.{OciImageManifest}
use Rattle.oci_manifests.specs.declared.index.OciImageIndex.{OciImageIndex}
use Rattle.oci_manifests.specs.declared.document.OciManifest.{OciManifest}
use Rattle.engine_terms.specs.declared.error.OciDistributionError.{OciDistributionError}
use Rattle.engine_terms.specs.declared.error.OciDistributionError.TheVariants as refusal
use Rattle.engine_answers.specs.Documents.{plain_of, or_unread, tables_read}

plain : (d : Data) → has_float d ≡ false → plain_of (Some d) ≡ Some d
plain d is = rw is refl

by_one : (body : List ℕ) (m : Option OciImageManifest) (i : Option OciImageIndex) (document : OciManifest) → one_of m i ≡ Some document → (if is_some m && is_some i then Err (refusal.AmbiguousManifest body) else or_unread body (one_of m i)) ≡ Ok document
by_one body (Some m) None document is = cc
by_one body None (Some i) document is = cc
by_one body (Some m) (Some i) document is = cc
by_one body None None document is = cc

-- one table matches it
pub read_once : (body : List ℕ) (d : Data) (document : OciManifest) → has_float d ≡ false → document_of d ≡ Some document → tables_read body (plain_of (Some d)) ≡ Ok document
unfolding document_of
read_once body d document whole is = rw (plain d whole) (by_one body (manifest_of d) (index_of d) document is)

by_two : (body : List ℕ) (m : Option OciImageManifest) (i : Option OciImageIndex) → IsSome m → IsSome i → ◌≡◌ {A = Result OciManifest OciDistributionError} (if is_some m && is_some i then Err (refusal.AmbiguousManifest body) else or_unread body (one_of m i)) (Err (refusal.AmbiguousManifest body))
by_two body (Some m) (Some i) a b = refl
by_two body (Some m) None a b = absurd (cc b)
by_two body None i a b = absurd (cc a)

-- both do
pub read_twice : (body : List ℕ) (d : Data) → has_float d ≡ false → IsSome (manifest_of d) → IsSome (index_of d) → tables_read body (plain_of (Some d)) ≡ Err (refusal.AmbiguousManifest body)
unfolding document_of
read_twice body d whole a b = rw (plain d whole) (by_two body (manifest_of d) (index_of d) a b)

-- neither does
pub read_by_none : (body : List ℕ) (d : Data) → has_float d ≡ false → manifest_of d ≡ None → index_of d ≡ None → tables_read body (plain_of (Some d)) ≡ Err (refusal.ManifestParsingError body)
unfolding document_of
read_by_none body d whole a b = rw (plain d whole, a, b) refl

-- it contains a float
pub read_with_float : (body : List ℕ) (d : Data) → has_float d ≡ true → tables_read body (plain_of (Some d)) ≡ Err (refusal.ManifestParsingError body)
read_with_float body d is = rw is refl

pub ruleset read_outcomes = (read_once, read_twice, read_by_none, read_with_float)
