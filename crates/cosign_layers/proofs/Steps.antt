-- What a reader returns after each of its steps.
use Rattle.std.proofs.Common.{◌≡◌, ℕ, List, Option, Result, Ok, Err, ap}
use Rattle.std.specs.Prelude.{MatchBool}
use Rattle.std.specs.Result.{IsErrAnd}
use Rattle.cosign_layers.specs.Checks.{Input, Spelled, content_checked, signature_checked, entry_checked, certificate_checked, layer_with, layer_read}
use Rattle.json_values.specs.Refusals.{◌>>=◌, Matches}
use Rattle.cosign_layers.specs.Rejection.{is_memory}
use Rattle.cosign_parts.specs.Trust.{Trust}
use Rattle.cosign_parts.specs.declared.certificate.CertificateSignature.{CertificateSignature}
use Rattle.cosign_parts.specs.declared.layer.SignatureLayer.{SignatureLayer}
use Rattle.cosign_parts.specs.declared.log_entry.LogEntryBundle.{LogEntryBundle}
use Rattle.cosign_layers.specs.declared.rejection.LayerRejection.{LayerRejection}
use Rattle.cosign_parts.specs.declared.shown.Shown.{Shown}
use Rattle.json_values.proofs.Refusals.{says_next}
use Rattle.cosign_layers.proofs.Outcomes.{stopped}

-- the step returned this rejection, unless memory ran out
abbrev Refused : {A : Type 0} → Result A LayerRejection → LayerRejection → Type 0
Refused step x = MatchBool (is_memory x) (Unit {0}) (step ≡ Err x)

made : (a b : SignatureLayer) → b ≡ a → (let r : Result SignatureLayer LayerRejection = Ok b in r) ≡ Ok a
made a b is = ap Ok is

module _ (trust : Trust) (d : List ℕ) (input : Input) where
  abbrev with_certificate : Shown → Spelled → Option LogEntryBundle → Option CertificateSignature → Result SignatureLayer LayerRejection
  with_certificate s p e c = Ok (layer_with input s p.0 e c)

  abbrev with_entry : Shown → Spelled → Option LogEntryBundle → Result SignatureLayer LayerRejection
  with_entry s p e = certificate_checked trust.vouched e s.certificate >>= with_certificate s p e

  abbrev with_signature : Shown → Spelled → Result SignatureLayer LayerRejection
  with_signature s p = entry_checked trust input.kind input.content p.1 s.log_entry >>= with_entry s p

  abbrev with_content : Shown → Result SignatureLayer LayerRejection
  with_content s = signature_checked s.signature >>= with_signature s

  pub no_content : (x : LayerRejection) (r : Result SignatureLayer LayerRejection) → Refused (content_checked d input) x → IsErrAnd r (λ y. y ≡ x) → Matches is_memory r (layer_read trust d input)
  no_content x r h is = stopped (content_checked d input) with_content x r h is

  pub no_signature : (s : Shown) (x : LayerRejection) (r : Result SignatureLayer LayerRejection) → content_checked d input ≡ Ok s → Refused (signature_checked s.signature) x → IsErrAnd r (λ y. y ≡ x) → Matches is_memory r (layer_read trust d input)
  no_signature s x r content h is = says_next is_memory (content_checked d input) s with_content r content (stopped (signature_checked s.signature) (with_signature s) x r h is)

  pub no_entry : (s : Shown) (p : Spelled) (x : LayerRejection) (r : Result SignatureLayer LayerRejection) → content_checked d input ≡ Ok s → signature_checked s.signature ≡ Ok p → Refused (entry_checked trust input.kind input.content p.1 s.log_entry) x → IsErrAnd r (λ y. y ≡ x) → Matches is_memory r (layer_read trust d input)
  no_entry s p x r content signature h is =
      says_next is_memory (content_checked d input) s with_content r content
      (says_next is_memory (signature_checked s.signature) p (with_signature s) r signature
      (stopped (entry_checked trust input.kind input.content p.1 s.log_entry) (with_entry s p) x r h is))

  pub no_certificate : (s : Shown) (p : Spelled) (e : Option LogEntryBundle) (x : LayerRejection) (r : Result SignatureLayer LayerRejection) → content_checked d input ≡ Ok s → signature_checked s.signature ≡ Ok p → entry_checked trust input.kind input.content p.1 s.log_entry ≡ Ok e → Refused (certificate_checked trust.vouched e s.certificate) x → IsErrAnd r (λ y. y ≡ x) → Matches is_memory r (layer_read trust d input)
  no_certificate s p e x r content signature entry h is =
      says_next is_memory (content_checked d input) s with_content r content
      (says_next is_memory (signature_checked s.signature) p (with_signature s) r signature
      (says_next is_memory (entry_checked trust input.kind input.content p.1 s.log_entry) e (with_entry s p) r entry
      (stopped (certificate_checked trust.vouched e s.certificate) (with_certificate s p e) x r h is)))

  pub all_passed : (s : Shown) (p : Spelled) (e : Option LogEntryBundle) (c : Option CertificateSignature) (layer : SignatureLayer) → content_checked d input ≡ Ok s → signature_checked s.signature ≡ Ok p → entry_checked trust input.kind input.content p.1 s.log_entry ≡ Ok e → certificate_checked trust.vouched e s.certificate ≡ Ok c → layer_with input s p.0 e c ≡ layer → Matches is_memory (let r : Result SignatureLayer LayerRejection = Ok layer in r) (layer_read trust d input)
  all_passed s p e c layer content signature entry certificate is =
      says_next is_memory (content_checked d input) s with_content (Ok layer) content
      (says_next is_memory (signature_checked s.signature) p (with_signature s) (Ok layer) signature
      (says_next is_memory (entry_checked trust input.kind input.content p.1 s.log_entry) e (with_entry s p) (Ok layer) entry
      (says_next is_memory (certificate_checked trust.vouched e s.certificate) c (with_certificate s p e) (Ok layer) certificate (made layer (layer_with input s p.0 e c) is))))
