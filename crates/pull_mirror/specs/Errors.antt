-- What a refused copy states, and how it is printed: a variant's name, then the values that it holds but the image.
use Rattle.std.specs.Prelude.{◌≡◌, ℕ, Bool, true, false, List, ◌++◌, Option, Some, None, Result, Ok, Err, codes}
use Rattle.json_values.specs.Canon.{quoted_text}
use Rattle.oci_names.specs.Reference.{whole_text}
use Rattle.oci_names.specs.declared.reference.Reference.{Reference}
use Rattle.engine_terms.specs.Error.{is_memory}
use Rattle.engine_terms.specs.declared.error.OciDistributionError.{OciDistributionError}
use Rattle.engine_terms.specs.declared.error.OciDistributionError.TheVariants as engine
use Rattle.cosign_rows.specs.declared.refusal.PullRefusal.{PullRefusal}
use Rattle.pull_report.specs.Prints.{distribution_print, refusal_print}
use Rattle.pull_mirror.specs.Targets.{is_target}
use Rattle.pull_mirror.specs.declared.refusals.MirrorError.{MirrorError}
use Rattle.pull_mirror.specs.declared.refusals.MirrorError.TheVariants as mirror
use Rattle.pull_mirror.specs.declared.refusals.PushRefusal.{PushRefusal}
use Rattle.pull_mirror.specs.declared.refusals.PushRefusal.TheVariants.{Refused, WantOfMemory}
use Rattle.pull_mirror.specs.declared.refusals.PushReport.{PushReport}

-- ---- a refused push

-- the registry client's error
abbrev pub error_of : PushRefusal → OciDistributionError
error_of (Refused digest error) = error
error_of WantOfMemory = engine.WantOfMemory

-- it is about this digest, and its error is not that memory ran out; or memory ran out
abbrev pub IsRefusalOf : List ℕ → PushRefusal → Type 0
IsRefusalOf text (Refused digest error) = (digest ≡ text) × (is_memory error ≡ false)
IsRefusalOf text WantOfMemory = Unit {0}

-- the digest and the error, unless memory ran out
abbrev pub IfRefused : PushRefusal → (List ℕ → OciDistributionError → Type 0) → Type 0
IfRefused (Refused digest error) P = P digest error
IfRefused WantOfMemory P = Unit {0}

-- the result as the row has it
abbrev pub as_answered : {A : Type 0} → Result A PushRefusal → Result A OciDistributionError
as_answered (Ok a) = Ok a
as_answered (Err e) = Err (error_of e)

-- the URL of the document that was signed
abbrev pub url_answered : Result PushReport PushRefusal → Result (List ℕ) OciDistributionError
url_answered (Ok report) = Ok report.manifest_url
url_answered (Err e) = Err (error_of e)

-- ---- a refused target

-- the refusal holds the text of this target, or memory ran out
abbrev pub IsTargetOf : Reference → MirrorError → Type 0
IsTargetOf target (mirror.Target reference) = reference ≡ whole_text target
IsTargetOf target (mirror.Pull e) = ⊥
IsTargetOf target (mirror.Push found digest error) = ⊥
IsTargetOf target mirror.WantOfMemory = Unit {0}

-- no error for a target; for another reference the refusal, or memory ran out
abbrev pub IsTargetError : Reference → Option MirrorError → Type 0
IsTargetError target None = is_target target ≡ true
IsTargetError target (Some (mirror.Target reference)) = (is_target target ≡ false) × (reference ≡ whole_text target)
IsTargetError target (Some (mirror.Pull e)) = ⊥
IsTargetError target (Some (mirror.Push found digest error)) = ⊥
IsTargetError target (Some mirror.WantOfMemory) = Unit {0}

-- ---- prints

abbrev pub target_print : List ℕ → List ℕ
target_print reference = codes "Target " ++ quoted_text reference

abbrev pub pull_print : PullRefusal → List ℕ
pull_print e = codes "Pull " ++ refusal_print e

abbrev pub push_print : List ℕ → OciDistributionError → List ℕ
push_print digest error = codes "Push " ++ quoted_text digest ++ codes " " ++ distribution_print error

abbrev pub mirror_print : MirrorError → List ℕ
mirror_print (mirror.Target reference) = target_print reference
mirror_print (mirror.Pull e) = pull_print e
mirror_print (mirror.Push found digest error) = push_print digest error
mirror_print mirror.WantOfMemory = codes "WantOfMemory"
