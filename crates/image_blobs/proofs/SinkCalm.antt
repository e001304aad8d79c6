-- Refusals that are not a fault of the sink, and what later exchanges leave of a prefix.
use Rattle.std.proofs.Common.{◌≡◌, inl, inr, ℕ, Bool, true, false, List, ◌∷◌, [], ◌++◌, Option, Some, None, Result, Ok, Err, sym, ap, ◌∙◌, append_assoc}
use Rattle.std.specs.Prelude.{bytes_eq, nat_eq, if◌then◌else◌}
use Rattle.oci_transport.specs.declared.message.Answer.{Answer}
use Rattle.oci_transport.specs.declared.message.Exchange.{Exchange}
use Rattle.oci_errors.specs.declared.envelope.OciEnvelope.{OciEnvelope}
use Rattle.oci_digests.specs.Names.{digest_text}
use Rattle.oci_digests.specs.declared.error.DigestError.TheVariants.{VerificationError}
use Rattle.engine_terms.specs.declared.error.SpecViolation.TheVariants.{Status}
use Rattle.engine_terms.specs.declared.error.OciDistributionError.{OciDistributionError}
use Rattle.engine_terms.specs.declared.error.OciDistributionError.TheVariants as refusal
use Rattle.engine_answers.specs.declared.blobs.Expected.{Expected}
use Rattle.engine_answers.specs.Answers.{refused_answer, is_success, is_client_error, by_envelope, envelope_in}
use Rattle.engine_answers.specs.Blobs.{compared, given_compared, both_compared}
use Rattle.json_values.specs.Refusals.{◌>>◌}
use Rattle.engine_rows.specs.Blobs.{IsPrefix}

by_list : (url : List ℕ) (answer : Answer) (x : Option OciEnvelope) → by_envelope url answer x ≡ refusal.SinkFault → ⊥
by_list url answer (Some envelope) h = cc
by_list url answer None h = cc

pub answer_never : (url : List ℕ) (answer : Answer) → refused_answer 200 url answer ≡ refusal.SinkFault → ⊥
answer_never url answer = by_status (nat_eq answer.status 401) (is_success answer.status) (is_client_error answer.status) where
  by_status : (a b c : Bool) → (if a then refusal.UnauthorizedError url else (if b then refusal.SpecViolationError (Status 200 answer.status url) else (if c then by_envelope url answer (envelope_in answer.body) else refusal.ServerError answer.status url answer.body))) ≡ refusal.SinkFault → ⊥
  by_status true b c h = cc
  by_status false true c h = cc
  by_status false false true h = by_list url answer (envelope_in answer.body) h
  by_status false false false h = cc

one_never : (x : Expected) (body : List ℕ) → compared x body ≡ Err refusal.SinkFault → ⊥
one_never x body = by_same (bytes_eq x.text (digest_text x.algorithm body)) where
  by_same : (b : Bool) → (if b then Ok (tt {0}) else Err (refusal.DigestError (VerificationError x.text (digest_text x.algorithm body)))) ≡ Err refusal.SinkFault → ⊥
  by_same true h = cc
  by_same false h = cc

given_never : (given : Option Expected) (body : List ℕ) → given_compared given body ≡ Err refusal.SinkFault → ⊥
given_never None body h = cc
given_never (Some x) body h = one_never x body h

first_never : (x y : Result Unit OciDistributionError) → (x ≡ Err refusal.SinkFault → ⊥) → (y ≡ Err refusal.SinkFault → ⊥) → (x >> y) ≡ Err refusal.SinkFault → ⊥
first_never (Ok u) y f g h = g h
first_never (Err e) y f g h = f h

pub compared_never : (given : Option Expected) (own : Expected) (body : List ℕ) → both_compared given own body ≡ Err refusal.SinkFault → ⊥
compared_never given own body = first_never _ _ (given_never given body) (one_never own body)

pub later_front : (bytes : List ℕ) (c d : List Exchange) → IsPrefix bytes d → IsPrefix bytes (c ++ d)
later_front bytes c d (inl none) = inl none
later_front bytes c d (inr h) = inr (record {
  before = c ++ h.before;
  last = h.last;
  split = ap (λ (x : List Exchange). c ++ x) h.split ∙ sym (append_assoc c h.before (h.last ∷ []));
  answer = h.answer;
  answered = h.answered;
  success = h.success;
  left = h.left;
  body = h.body;
})
