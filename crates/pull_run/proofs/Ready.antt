-- What is read has what a mirror needs.
use Rattle.std.proofs.Common.{◌≡◌, ℕ, Bool, true, false, List, [], ◌∷◌, length, if◌then◌else◌, Option, Some, None, refl, subst}
use Rattle.std.specs.Prelude.{IfSome, IsOk, codes}
use Rattle.serde_json.specs.Data.{Data}
use Rattle.serde_json.specs.Find.{get}
use Rattle.json_tables.specs.Member.{required, at_name}
use Rattle.json_tables.specs.Objects.{only}
use Rattle.json_tables.specs.Reading.{◌>>=◌, list_of}
use Rattle.oci_names.specs.Reference.{reference_of}
use Rattle.oci_auth.specs.declared.auth.RegistryAuth.TheVariants.{Anonymous}
use Rattle.engine_terms.specs.declared.settings.ClientProtocol.TheVariants.{Https}
use Rattle.recorded_case.specs.Answer.{answer_of}
use Rattle.recorded_case.specs.Auth.{auth_of}
use Rattle.recorded_case.specs.Case.{case_of, protocol_of, reference_text_of, IsReady}
use Rattle.recorded_case.specs.Members.{unless_absent}
use Rattle.recorded_case.specs.declared.case.Case.{Case}
use Rattle.recorded_case.proofs.CaseParts.{reads_as_reference, through, case_ready}
use Rattle.pull_run.specs.MirrorInput.{IsForMirror, has_one, once_only, source_of, target_of, target_members, mirror_input_of}
use Rattle.pull_run.specs.declared.mirror_input.Target.{Target}

-- ---- the case

-- a case that can be pulled once
abbrev pub IsSource : Case → Type 0
IsSource case = IsReady case × (length case.moments ≡ 1)

one_long : (moments : List ℕ) → has_one moments ≡ true → length moments ≡ 1
one_long [] h = absurd (cc h)
one_long (m ∷ []) h = refl
one_long (m ∷ n ∷ moments) h = absurd (cc h)

passed : (case : Case) (b : Bool) → has_one case.moments ≡ b → IsReady case → IfSome (if b then Some case else None) IsSource
passed case true is ready = (ready, one_long case.moments is)
passed case false is ready = tt

is_ready : (case : Case) (o : Option Case) → o ≡ Some case → IfSome o IsReady → IsReady case
is_ready case o is h = subst (λ p. IfSome p IsReady) is h

source_ready : (d : Data) → IfSome (source_of d) IsSource
unfolding source_of
source_ready d = through IsSource (case_of d) once_only (λ case read. passed case (has_one case.moments) refl (is_ready case (case_of d) read (case_ready d)))

-- ---- the target

abbrev Parses : Target → Type 0
Parses target = IsOk (reference_of target.reference)

target_parses : (d : Data) → IfSome (target_of d) Parses
unfolding target_of
target_parses d =
    through Parses (only target_members d) _ (λ known _.
    through Parses (required reference_text_of (codes "reference") d) _ (λ reference is_reference.
    through Parses (at_name (unless_absent Https protocol_of) (codes "protocol") d) _ (λ protocol _.
    through Parses (at_name (unless_absent Anonymous auth_of) (codes "auth") d) _ (λ auth _.
    through Parses (required (list_of answer_of) (codes "answers") d) _ (λ answers _.
    reads_as_reference (get (codes "reference") d) reference is_reference)))))

-- ---- both

target_in : (o : Option Data) (target : Target) → (o >>= target_of) ≡ Some target → IfSome (o >>= target_of) Parses
target_in None target is = tt
target_in (Some d) target is = target_parses d

source_in : (o : Option Data) (case : Case) → (o >>= source_of) ≡ Some case → IfSome (o >>= source_of) IsSource
source_in None case is = tt
source_in (Some d) case is = source_ready d

for_mirror : (case : Case) (target : Target) (o : Option Case) (p : Option Target) → o ≡ Some case → p ≡ Some target → IfSome o IsSource → IfSome p Parses
    → IsForMirror (record { case = case; target = target })
for_mirror case target o p is_case is_target h parses =
    let ready = subst (λ q. IfSome q IsSource) is_case h in
    record { ready = ready.0; once = ready.1; target = subst (λ q. IfSome q Parses) is_target parses }

input_ready : (d : Data) → IfSome (mirror_input_of d) IsForMirror
unfolding mirror_input_of
input_ready d = through IsForMirror (only (codes "case" ∷ codes "target" ∷ []) d) _ (λ known here.
    through IsForMirror (required target_of (codes "target") d) _ (λ target to.
    through IsForMirror (required source_of (codes "case") d) _ (λ case read.
    for_mirror case target (required source_of (codes "case") d) (required target_of (codes "target") d) read to
    (source_in (get (codes "case") d) case read) (target_in (get (codes "target") d) target to))))

pub json_ready : (o : Option Data) → IfSome (o >>= mirror_input_of) IsForMirror
json_ready None = tt
json_ready (Some d) = input_ready d
