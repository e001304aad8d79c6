-- The list of referrers, and the tag that replaces it, as steps of the row.
use Rattle.std.proofs.Common.{◌≡◌, ◌≢◌, ℕ, Bool, true, false, List, Option, Result, Ok, Err, refl, arith}
use Rattle.std.specs.Prelude.{MatchBool, nat_eq}
use Rattle.std.proofs.lemmas.Bool.Decides.{nat_tests}
use Rattle.oci_transport.specs.Link.{Link}
use Rattle.oci_auth.specs.declared.auth_state.AuthState.{AuthState}
use Rattle.oci_names.specs.declared.reference.Reference.{Reference}
use Rattle.oci_manifests.specs.declared.document.OciManifest.{OciManifest}
use Rattle.oci_manifests.specs.declared.index.OciImageIndex.{OciImageIndex}
use Rattle.oci_protocol.specs.Proto.{Done, bind}
use Rattle.oci_protocol.specs.Runs.{Meets, PerformsPrefix, Performs}
use Rattle.oci_protocol.proofs.Laws.{PerformsPrefix-first}
use Rattle.engine_terms.specs.declared.error.OciDistributionError.{OciDistributionError}
use Rattle.engine_terms.specs.declared.error.OciDistributionError.TheVariants as refusal
use Rattle.json_values.specs.Refusals.{Matches}
use Rattle.engine_terms.specs.Error.{is_memory}
use Rattle.engine_terms.specs.Contexts.{Context}
use Rattle.engine_answers.specs.Referrers.{referrers_in, tagged_index}
use Rattle.engine_answers.specs.declared.answers.Got.{Got}
use Rattle.engine_rows.specs.Referrers.{referrers_tagged, referrers_by}
use Rattle.engine_rows.specs.Rows.{Row}
use Rattle.oci_protocol.proofs.Exits.{said}
use Rattle.engine_rows.proofs.Exits.{caught, caught_refusal}

memory_is : (e : OciDistributionError) → is_memory e ≡ true → e ≡ refusal.WantOfMemory
memory_is refusal.WantOfMemory is = refl
memory_is _ is = absurd (cc is)

-- out of memory cut the call off
cut : {A : Type 0} {p : Row A} {old new : Link} {k l : AuthState} (r : Result A OciDistributionError) → PerformsPrefix p old new k l → Matches is_memory r (Err refusal.WantOfMemory) → Meets is_memory p old new k l r
cut (Ok a) h w = absurd (cc w)
cut {A} {p} {old} {new} {k} {l} (Err e) h w = record { outcome = by_memory (is_memory e) refl w } where
  by_memory : (b : Bool) → is_memory e ≡ b → MatchBool b (Unit {0}) (◌≡◌ {A = Result A OciDistributionError} (Err refusal.WantOfMemory) (Err e)) → MatchBool b (PerformsPrefix p old new k l) (Performs p old new k l (Err e))
  by_memory true is w = h
  by_memory false is w = absurd (cc (is, w))

pub tagged_met : (digest : List ℕ) (kind : Option (List ℕ)) {p : Row (OciManifest × List ℕ)} {old new : Link} {k l : AuthState} (answer : Result (OciManifest × List ℕ) OciDistributionError) (r : Result OciImageIndex OciDistributionError)
    → Meets is_memory p old new k l answer → Matches is_memory r (tagged_index digest kind answer) → Meets is_memory (bind p (λ answer. Done (tagged_index digest kind answer))) old new k l r
tagged_met digest kind (Ok found) r met says = caught _ met (said r says)
tagged_met digest kind {p} {old} {new} {k} {l} (Err e) r met says = by_memory (is_memory e) refl where
  by_memory : (b : Bool) → is_memory e ≡ b → Meets is_memory (bind p (λ answer. Done (tagged_index digest kind answer))) old new k l r
  by_memory true is = cut r (PerformsPrefix-first _ (rw is at met.outcome)) (rw (memory_is e is) at says)
  by_memory false other = caught_refusal _ other met (said r says)

is_equal : (a b : ℕ) → a ≡ b → nat_eq a b ≡ true
is_equal a b same = grind (arith, nat_tests, same)

is_other : (a b : ℕ) → a ≢ b → nat_eq a b ≡ false
is_other a b other = by_test (nat_eq a b) refl where
  by_test : (t : Bool) → nat_eq a b ≡ t → nat_eq a b ≡ false
  by_test true is = absurd (other (grind (arith, nat_tests, is)))
  by_test false is = is

-- the registry responded to the request for the list
pub listed_met : (s : Context) (image : Reference) (digest : List ℕ) (kind : Option (List ℕ)) (got : Got) {link : Link} {k : AuthState} (r : Result OciImageIndex OciDistributionError) → got.answer.status ≢ 404 → Matches is_memory r (referrers_in got) → Meets is_memory (referrers_by s image digest kind got) link link k k r
listed_met s image digest kind got r other says = rw (is_other got.answer.status 404 other) (said r says)

-- it has no such list
pub by_tag_met : (s : Context) (image : Reference) (digest : List ℕ) (kind : Option (List ℕ)) (got : Got) {old new : Link} {k l : AuthState} {r : Result OciImageIndex OciDistributionError} → got.answer.status ≡ 404 → Meets is_memory (referrers_tagged s image digest kind) old new k l r → Meets is_memory (referrers_by s image digest kind got) old new k l r
by_tag_met s image digest kind got missing met = rw (is_equal got.answer.status 404 missing) met
