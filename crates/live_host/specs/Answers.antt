-- The host's answers, and the trust that they establish.
use Rattle.std.specs.Prelude.{ℕ, List, Bool, false, ◌&&◌, bytes_eq, is_some, Option, Some, None}
use Rattle.std.specs.List.{list_any, find}
use Rattle.std.specs.Ordering.{int_eq}
use Rattle.cosign_parts.specs.declared.certificate.Evidence.{Evidence}
use Rattle.cosign_parts.specs.declared.certificate.Vouched.{Vouched}
use Rattle.live_host.specs.declared.answers.HostAnswer.{HostAnswer}
use Rattle.live_host.specs.declared.answers.HostAnswer.TheVariants.{Signature, Certificate}
use Rattle.live_host.specs.declared.answers.Answers.{Answers}
use Rattle.live_host.specs.declared.answers.CertificateAnswer.{CertificateAnswer}
use Rattle.live_host.specs.declared.answers.SignatureAnswer.{SignatureAnswer}

-- the question was about this signature of this message under this key, and the answer was valid
abbrev pub calls_valid : List ℕ → List ℕ → List ℕ → SignatureAnswer → Bool
calls_valid key message signature a =
    a.valid && bytes_eq a.key key && bytes_eq a.signature signature && bytes_eq a.message message

abbrev pub is_valid_by : List ℕ → List ℕ → List ℕ → HostAnswer → Bool
is_valid_by key message signature (Signature a) = calls_valid key message signature a
is_valid_by key message signature (Certificate a) = false

-- the signatures that the host called valid
abbrev pub valid_by : Answers → List ℕ → List ℕ → List ℕ → Bool
valid_by answers key message signature = list_any (is_valid_by key message signature) answers.list

-- the question was about this certificate at this time, and the host vouched for it
abbrev pub vouches : Evidence → CertificateAnswer → Bool
vouches e a =
    bytes_eq a.evidence.certificate e.certificate && int_eq a.evidence.integrated_time e.integrated_time
    && is_some a.vouched

abbrev pub is_vouched_by : Evidence → HostAnswer → Bool
is_vouched_by e (Certificate a) = vouches e a
is_vouched_by e (Signature a) = false

abbrev pub vouched_in : Option HostAnswer → Option Vouched
vouched_in (Some (Certificate a)) = a.vouched
vouched_in _ = None

-- what the host first vouched for a certificate at a time
abbrev pub vouched_by : Answers → Evidence → Option Vouched
vouched_by answers e = vouched_in (find (is_vouched_by e) answers.list)
