-- Questions in sequence.
use Rattle.std.proofs.Common.{◌≡◌, ℕ, ◌+◌, ◌<◌, List, [], ◌∷◌, ◌++◌, Option, Some, None, refl, sym, ap, ◌∙◌, append_assoc, append-nil, subst}
use Rattle.std.specs.Prelude.{All, slice_index_or, take, length, unwrap_or}
use Rattle.std.specs.FinMap.{get as key_of}
use Rattle.std.proofs.lemmas.List.Elements.{All-more}
use Rattle.base64.specs.Engines.{standard}
use Rattle.base64.specs.GeneralPurpose.{decoded_of}
use Rattle.cosign_parts.specs.Envelope.{signed_text}
use Rattle.cosign_parts.specs.LogEntry.{log_text}
use Rattle.std.specs.FinMap.{FinMap}
use Rattle.json_values.specs.Places.{by_bytes}
use Rattle.cosign_parts.specs.declared.certificate.Evidence.{Evidence}
use Rattle.cosign_parts.specs.declared.certificate.Vouched.{Vouched}
use Rattle.cosign_parts.specs.declared.layer.SignatureLayer.{SignatureLayer}
use Rattle.cosign_parts.specs.declared.log_entry.LogEntryBundle.{LogEntryBundle}
use Rattle.live_host.specs.Wire.{Wire}
use Rattle.live_host.specs.Questions.{WasAsked, WereAsked, AsksMore, IsAmong, KeyAsked, VouchedAsked, SignatureAsked, LogAsked, LayerAsked, evidence_at}
use Rattle.live_host.specs.declared.answers.HostAnswer.{HostAnswer}

pub were_more : (xs ys : List HostAnswer) (a b c : Wire) → WereAsked xs a b → WereAsked ys b c → WereAsked (xs ++ ys) a c
were_more [] ys a b c first second = subst (λ w. WereAsked ys w c) (sym first) second
were_more (x ∷ xs) ys a b c first second = (first.0, first.1, were_more xs ys first.0 b c first.2 second)

pub asks_none : (xs : List HostAnswer) (w : Wire) → AsksMore xs xs w w
asks_none xs w = record { more = []; behind = sym (append-nil xs); asked = refl }

pub asks_one : (before after : List HostAnswer) (a : HostAnswer) (w v : Wire) → after ≡ before ++ a ∷ [] → WasAsked a w v → AsksMore before after w v
asks_one before after a w v is asked = record { more = a ∷ []; behind = is; asked = (v, asked, refl) }

pub asks_both : (xs ys zs : List HostAnswer) (a b c : Wire) → AsksMore xs ys a b → AsksMore ys zs b c → AsksMore xs zs a c
asks_both xs ys zs a b c first second = record {
  more = first.more ++ second.more;
  behind = second.behind ∙ ap (λ l. l ++ second.more) first.behind ∙ append_assoc xs first.more second.more;
  asked = were_more first.more second.more a b c first.asked second.asked;
}

-- all questions, from none on
pub all_asked : (after : List HostAnswer) (w v : Wire) → AsksMore [] after w v → WereAsked after w v
all_asked after w v h = subst (λ l. WereAsked l w v) (sym h.behind) h.asked

-- ---- what was asked is asked, whatever is asked after it

pub among_last : (before after : List HostAnswer) (a : HostAnswer) → after ≡ before ++ a ∷ [] → IsAmong a after
among_last before after a is = (before, [], is)

among_more : (a : HostAnswer) (xs ys : List HostAnswer) (w v : Wire) → AsksMore xs ys w v → IsAmong a xs → IsAmong a ys
among_more a xs ys w v more is =
    (is.0, is.1 ++ more.more, more.behind ∙ ap (λ l. l ++ more.more) is.2 ∙ append_assoc is.0 (a ∷ is.1) more.more)

pub key_more : (xs ys : List HostAnswer) (w v : Wire) (message signature key : List ℕ) → AsksMore xs ys w v → KeyAsked xs message signature key → KeyAsked ys message signature key
key_more xs ys w v message signature key more is = (is.0, among_more _ xs ys w v more is.1)

pub keys_more : (xs ys : List HostAnswer) (w v : Wire) (message signature : List ℕ) (keys : List (List ℕ)) → AsksMore xs ys w v
    → All (KeyAsked xs message signature) keys → All (KeyAsked ys message signature) keys
keys_more xs ys w v message signature keys more are = λ k d lt. key_more xs ys w v message signature _ more (are k d lt)

vouched_more : (xs ys : List HostAnswer) (w v : Wire) (message signature : List ℕ) (vouched : Option Vouched) → AsksMore xs ys w v
    → VouchedAsked xs message signature vouched → VouchedAsked ys message signature vouched
vouched_more xs ys w v message signature None more is = is
vouched_more xs ys w v message signature (Some vouched) more is = key_more xs ys w v message signature vouched.key more is

signature_more : (xs ys : List HostAnswer) (w v : Wire) (keys : List (List ℕ)) (message signature : List ℕ) (evidence : Option Evidence) → AsksMore xs ys w v
    → SignatureAsked xs keys message signature evidence → SignatureAsked ys keys message signature evidence
signature_more xs ys w v keys message signature None more are = keys_more xs ys w v message signature keys more are
signature_more xs ys w v keys message signature (Some evidence) more is =
    (is.0, among_more _ xs ys w v more is.1, vouched_more xs ys w v message signature is.0 more is.2)

pub log_more : (xs ys : List HostAnswer) (w v : Wire) (log_keys : FinMap by_bytes (List ℕ)) (entry : Option LogEntryBundle) → AsksMore xs ys w v
    → LogAsked xs log_keys entry → LogAsked ys log_keys entry
log_more xs ys w v log_keys None more is = is
log_more xs ys w v log_keys (Some entry) more is = λ key known. key_more xs ys w v _ _ key more (is key known)

layer_more : (xs ys : List HostAnswer) (w v : Wire) (keys : List (List ℕ)) (log_keys : FinMap by_bytes (List ℕ)) (layer : SignatureLayer) → AsksMore xs ys w v
    → LayerAsked xs keys log_keys layer → LayerAsked ys keys log_keys layer
layer_more xs ys w v keys log_keys layer more is = λ signature read.
    let both = is signature read in
    (log_more xs ys w v log_keys layer.bundle more both.0, signature_more xs ys w v keys _ signature _ more both.1)

pub layers_more : (xs ys : List HostAnswer) (w v : Wire) (keys : List (List ℕ)) (log_keys : FinMap by_bytes (List ℕ)) (layers : List SignatureLayer) → AsksMore xs ys w v
    → All (LayerAsked xs keys log_keys) layers → All (LayerAsked ys keys log_keys) layers
layers_more xs ys w v keys log_keys layers more are = λ k d lt. layer_more xs ys w v keys log_keys (slice_index_or layers k d) more (are k d lt)

-- one key more
pub keys_next : (xs ys : List HostAnswer) (w v : Wire) (message signature : List ℕ) (keys : List (List ℕ)) (i : ℕ) (key : List ℕ) → i < length keys → key ≡ slice_index_or keys i key
    → AsksMore xs ys w v → All (KeyAsked xs message signature) (take i keys) → KeyAsked ys message signature key → All (KeyAsked ys message signature) (take (i + 1) keys)
keys_next xs ys w v message signature keys i key lt is more are one =
    All-more (KeyAsked ys message signature) keys i key lt (keys_more xs ys w v message signature (take i keys) more are) (subst (KeyAsked ys message signature) is one)

-- one layer more
pub layers_next : (xs ys : List HostAnswer) (w v : Wire) (keys : List (List ℕ)) (log_keys : FinMap by_bytes (List ℕ)) (layers : List SignatureLayer) (i : ℕ) (layer : SignatureLayer) → i < length layers → layer ≡ slice_index_or layers i layer
    → AsksMore xs ys w v → All (LayerAsked xs keys log_keys) (take i layers) → LayerAsked ys keys log_keys layer → All (LayerAsked ys keys log_keys) (take (i + 1) layers)
layers_next xs ys w v keys log_keys layers i layer lt is more are one =
    All-more (LayerAsked ys keys log_keys) layers i layer lt (layers_more xs ys w v keys log_keys (take i layers) more are) (subst (LayerAsked ys keys log_keys) is one)

-- the question about a log entry
pub log_asked : (answers : List HostAnswer) (log_keys : FinMap by_bytes (List ℕ)) (found : Option LogEntryBundle) (entry : LogEntryBundle) (message key : List ℕ)
    → found ≡ Some entry → key_of log_keys entry.log_id ≡ Some key → message ≡ log_text entry → KeyAsked answers message entry.signed_entry_timestamp key → LogAsked answers log_keys found
log_asked answers log_keys found entry message key is known text asked =
    subst (LogAsked answers log_keys) (sym is) (λ other found_key.
    subst (KeyAsked answers (log_text entry) entry.signed_entry_timestamp) (ap (λ o. unwrap_or o []) (sym known ∙ found_key))
    (subst (λ m. KeyAsked answers m entry.signed_entry_timestamp key) text asked))

-- the questions about a layer
pub layer_asked : (ys zs : List HostAnswer) (w v : Wire) (keys : List (List ℕ)) (log_keys : FinMap by_bytes (List ℕ)) (layer : SignatureLayer) (message signature : List ℕ) (evidence : Option Evidence)
    → decoded_of standard layer.signature ≡ Some signature → message ≡ signed_text layer.kind layer.content → evidence_at layer.bundle layer.certificate_signature ≡ evidence
    → LogAsked ys log_keys layer.bundle → AsksMore ys zs w v → SignatureAsked zs keys message signature evidence → LayerAsked zs keys log_keys layer
layer_asked ys zs w v keys log_keys layer message signature evidence read text at log more asked = λ other is. (
  log_more ys zs w v log_keys layer.bundle more log,
  subst (SignatureAsked zs keys (signed_text layer.kind layer.content) other) (sym at)
      (subst (λ s. SignatureAsked zs keys (signed_text layer.kind layer.content) s evidence) (ap (λ o. unwrap_or o []) (sym read ∙ is))
      (subst (λ m. SignatureAsked zs keys m signature evidence) text asked)),
)
