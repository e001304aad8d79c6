-- Properties of every case.
use Rattle.std.proofs.Common.{◌≡◌, codes, ℕ, ◌<◌, List, Bool, true, nat_lt, if◌then◌else◌, length, Option, Some, None, Result, Ok, Err, IfSome, IsOk, is_ok, refl, subst, arith}
use Rattle.std.proofs.lemmas.Bool.Decides.{nat_tests}
use Rattle.std.specs.Prelude.{[], false, IsTrue, option_map}
use Rattle.std.specs.FinMap.{empty}
use Rattle.serde_json.specs.Data.{Data}
use Rattle.serde_json.specs.Find.{get}
use Rattle.json_tables.specs.Reading.{◌>>=◌, text_of, bool_of, u64_of, list_of}
use Rattle.json_tables.specs.Objects.{only}
use Rattle.json_tables.specs.Member.{required, optional, at_name}
use Rattle.json_tables.specs.Bytes.{bytes_of}
use Rattle.engine_terms.specs.declared.settings.ClientProtocol.TheVariants.{Https}
use Rattle.oci_names.specs.Reference.{reference_of}
use Rattle.recorded_case.specs.declared.case.Case.{Case}
use Rattle.recorded_case.specs.Members.{passing, unless_absent, number_of}
use Rattle.recorded_case.specs.Case.{case_of, reference_text_of, protocol_of, moments_of, members, IsReady}
use Rattle.recorded_case.specs.Answer.{answer_of}
use Rattle.recorded_case.specs.Registry.{registry_of, one_of, Leads}
use Rattle.recorded_case.specs.Shelf.{maps_of, shelf_of}
use Rattle.recorded_case.specs.declared.registry.Registry.TheVariants as held
use Rattle.oci_transport.specs.declared.recorded.Recorded.{Recorded}
use Rattle.recorded_case.specs.declared.registry.Registry.{Registry}
use Rattle.oci_link.specs.declared.shelf.Shelf.{Shelf}
use Rattle.oci_link.specs.Leads.{redirects_lead}
use Rattle.recorded_case.specs.Auth.{auth_of}
use Rattle.oci_auth.specs.declared.auth.RegistryAuth.TheVariants.{Anonymous}
use Rattle.recorded_case.specs.Constraint.{constraint_of}
use Rattle.recorded_case.specs.Platform.{platform_of}
use Rattle.recorded_case.specs.Trust.{signature_of, judge_of, judge_by, log_keys_of}

some_is : {A : Type 0} {x y : A} → Some x ≡ Some y → x ≡ y
some_is e = cc e

passed_here : {A : Type 0} (test : A → Bool) (b : Bool) (x a : A) → test x ≡ b → (if b then Some x else None) ≡ Some a → test a ≡ true
passed_here test true x a p q = cc
passed_here test b x a p q = cc

-- a value that was read passes the test
passed : {A : Type 0} (test : A → Bool) (o : Option A) (a : A) → (o >>= passing test) ≡ Some a → test a ≡ true
passed test None a e = cc
passed test (Some x) a e = passed_here test (test x) x a refl e

ok_by_test : {A E : Type 0} (r : Result A E) → is_ok r ≡ true → IsOk r
ok_by_test (Ok x) e = refl
ok_by_test (Err x) e = e

pub reads_as_reference : (o : Option Data) (text : List ℕ) → (o >>= reference_text_of) ≡ Some text → IsOk (reference_of text)
unfolding reference_text_of
reads_as_reference None text e = cc
reads_as_reference (Some d) text e = ok_by_test (reference_of text) (passed (λ t. is_ok (reference_of t)) (text_of d) text e)

has_moments : (o : Option Data) (moments : List ℕ) → (o >>= moments_of) ≡ Some moments → 0 < length moments
unfolding moments_of
has_moments None moments e = cc
has_moments (Some d) moments e =
    let h = passed (λ ms. nat_lt 0 (length ms)) (list_of u64_of d) moments e in grind (arith, nat_tests)

-- a shelf that was read passes the test of its redirects
shelf_leads : (o : Option Shelf) (shelf : Shelf) → (o >>= passing redirects_lead) ≡ Some shelf → IsTrue (redirects_lead shelf)
shelf_leads o shelf e = passed redirects_lead o shelf e

held_leads : (o : Option Shelf) (r : Registry) → option_map held.Shelf o ≡ Some r → ((shelf : Shelf) → o ≡ Some shelf → IsTrue (redirects_lead shelf)) → Leads r
held_leads None r e f = cc e
held_leads (Some shelf) r e f = subst Leads (some_is e) (f shelf refl)

answers_lead : (o : Option (List Recorded)) (r : Registry) → option_map held.Answers o ≡ Some r → Leads r
answers_lead None r e = cc e
answers_lead (Some answers) r e = subst Leads (some_is e) tt

one_leads : (answers shelf : Option Data) (r : Registry) → one_of answers shelf ≡ Some r → Leads r
one_leads (Some answers) None r e = answers_lead (list_of answer_of answers) r e
one_leads None (Some shelf) r e = held_leads (shelf_of shelf) r e (λ x. shelf_leads (maps_of shelf) x)
one_leads (Some answers) (Some shelf) r e = cc e
one_leads None None r e = cc e

registry_leads : (d : Data) (r : Registry) → registry_of d ≡ Some r → Leads r
unfolding registry_of
registry_leads d r e = one_leads (get (codes "answers") d) (get (codes "shelf") d) r e

-- a property of each value after what was read holds for it, if it is present
pub through : {A B : Type 0} (P : B → Type 0) (o : Option A) (k : A → Option B) → ((a : A) → o ≡ Some a → IfSome (k a) P)
    → IfSome (o >>= k) P
through P None k h = tt
through P (Some a) k h = h a refl

abbrev HasRead : Data → Case → Type 0
HasRead d case =
    (required reference_text_of (codes "reference") d ≡ Some case.reference)
    × (required moments_of (codes "moments") d ≡ Some case.moments)
    × (registry_of d ≡ Some case.registry)

members_of : (d : Data) → IfSome (case_of d) (HasRead d)
unfolding case_of
members_of d =
    through (HasRead d) (only members d) _ (λ known _.
    through (HasRead d) (registry_of d) _ (λ registry is_registry.
    through (HasRead d) (required reference_text_of (codes "reference") d) _ (λ reference is_reference.
    through (HasRead d) (at_name (unless_absent Https protocol_of) (codes "protocol") d) _ (λ protocol _.
    through (HasRead d) (at_name (unless_absent Anonymous auth_of) (codes "auth") d) _ (λ auth _.
    through (HasRead d) (required (list_of text_of) (codes "accepted") d) _ (λ accepted _.
    through (HasRead d) (optional platform_of (codes "platform") d) _ (λ platform _.
    through (HasRead d) (at_name (unless_absent false bool_of) (codes "caching") d) _ (λ caching _.
    through (HasRead d) (required moments_of (codes "moments") d) _ (λ moments are_moments.
    through (HasRead d) (at_name (unless_absent None number_of) (codes "limit") d) _ (λ limit _.
    through (HasRead d) (required (list_of bytes_of) (codes "keys") d) _ (λ keys _.
    through (HasRead d) (required (list_of constraint_of) (codes "constraints") d) _ (λ constraints _.
    through (HasRead d) (at_name (unless_absent empty log_keys_of) (codes "log_keys") d) _ (λ log_keys _.
    through (HasRead d) (required (list_of signature_of) (codes "signatures") d) _ (λ signatures _.
    through (HasRead d) (at_name (unless_absent (judge_by []) judge_of) (codes "vouched") d) _ (λ vouched _.
    (is_reference, are_moments, is_registry))))))))))))))))

-- a consequence of a property of a value, if the value is present
follows : {A : Type 0} (P Q : A → Type 0) (o : Option A) → IfSome o P → ((a : A) → P a → Q a) → IfSome o Q
follows P Q None h f = tt
follows P Q (Some a) h f = f a h

pub case_ready : (d : Data) → IfSome (case_of d) IsReady
case_ready d =
    follows _ _ (case_of d) (members_of d) (λ case h.
    (reads_as_reference (get (codes "reference") d) case.reference h.0, registry_leads d case.registry h.2))

pub case_timed : (d : Data) → IfSome (case_of d) (λ case. 0 < length case.moments)
case_timed d =
    follows _ _ (case_of d) (members_of d) (λ case h. has_moments (get (codes "moments") d) case.moments h.1)
