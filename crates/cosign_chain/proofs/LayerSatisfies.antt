-- A layer that is read again stands for an image if and only if the test returns true.
use Rattle.std.proofs.Common.{◌≡◌, ◌↔◌, ◌<◌, ℕ, Bool, true, false, IsTrue, not, zero, suc, List, [], ◌∷◌, length, Option, Some, None, option_map, option_and_then, if◌then◌else◌, MatchBool, refl, sym, ap, ◌∙◌, arith, codes}
use Rattle.std.specs.Prelude.{◌==◌}
use Rattle.std.specs.FinMap.{FinMap}
use Rattle.json_values.specs.JsonText.{json_of, is_plain, plain_json_of}
use Rattle.json_values.specs.Places.{by_bytes}
use Rattle.json_tables.specs.Reading.{◌>>=◌}
use Rattle.json_tables.specs.Paths.{text_at}
use Rattle.json_tables.specs.Member.{or_null}
use Rattle.serde_json.specs.Data.{Data, null}
use Rattle.serde_json.specs.Find.{get}
use Rattle.serde_json.specs.Written.{has_float}
use Rattle.cosign_parts.specs.Layer.{LayerOf}
use Rattle.cosign_parts.specs.Payload.{content_of, equal_to, payload_of}
use Rattle.cosign_layers.specs.Read.{Gives, HasOneOutcome, Rejected, RejectedUnlessMemory, input_of}
use Rattle.cosign_layers.specs.Rejection.{is_memory}
use Rattle.cosign_parts.specs.Shown.{shown, shown_by_bundle, bundle_shown, payload_shown}
use Rattle.cosign_layers.specs.Satisfying.{PolicyContext, StandsFor, SatisfiesPolicy}
use Rattle.cosign_parts.specs.Trust.{Trust}
use Rattle.cosign_parts.specs.declared.layer.LayerKind.{LayerKind}
use Rattle.cosign_parts.specs.declared.layer.LayerKind.TheVariants as kinds
use Rattle.cosign_parts.specs.declared.layer.SignatureLayer.{SignatureLayer}
use Rattle.cosign_parts.specs.declared.layer.SimpleSigning.{SimpleSigning}
use Rattle.cosign_layers.specs.declared.rejection.LayerRejection.{LayerRejection}
use Rattle.cosign_chain.specs.SameLayer.{same_reading}
use Rattle.cosign_chain.proofs.SameLayers.{IsPlain, Reading, reading_is, reading_same}
use Rattle.cosign_chain.proofs.Sameness.{get_plain}

-- ---- the members of a payload that are not strings contain no float

bound : {A B : Type 0} (o : Option A) (f : A → Option B) (y : B) → (o >>= f) ≡ Some y → (x : A) × (o ≡ Some x) × (f x ≡ Some y)
bound None f y is = absurd (cc is)
bound (Some x) f y is = (x, refl, is)

null_plain : (k : List ℕ) (d : Data) (o : Option Data) (x : Data) → has_float d ≡ false → get k d ≡ o → or_null o ≡ Some x
    → has_float x ≡ false
null_plain k d None x plain found is = let same : null ≡ x = cc is in rw (← same) refl
null_plain k d (Some e) x plain found is = let same : e ≡ x = cc is in get_plain k d x plain (found ∙ ap Some same)

signing_plain : (d : Data) (signing : SimpleSigning) → has_float d ≡ false → payload_of d ≡ Some signing
    → has_float signing.optional ≡ false
unfolding payload_of
signing_plain d signing plain is =
    let a = bound (text_at (codes "critical" ∷ codes "identity" ∷ codes "docker-reference" ∷ []) d) _ signing is in
    let b = bound (text_at (codes "critical" ∷ codes "image" ∷ codes "docker-manifest-digest" ∷ []) d) _ signing a.2 in
    let c = bound (text_at (codes "critical" ∷ codes "type" ∷ []) d) _ signing b.2 in
    let e = bound (equal_to (codes "cosign container image signature") c.0) _ signing c.2 in
    let f = bound (or_null (get (codes "optional") d)) _ signing e.2 in
    let same : f.0 ≡ signing.optional = ap (λ (s : SimpleSigning). s.optional) (some_is _ signing f.2) in
    rw (← same) (null_plain (codes "optional") d (get (codes "optional") d) f.0 plain refl f.1) where
      some_is : (x y : SimpleSigning) → (let o : Option SimpleSigning = Some x in o) ≡ Some y → x ≡ y
      some_is x y is = cc is

plain_if : (b : Bool) (d e : Data) → (if not b then Some d else None) ≡ Some e → (b ≡ false) × (d ≡ e)
plain_if true d e is = absurd (cc is)
plain_if false d e is = (refl, cc is)

plain_json : (o : Option Data) (d : Data) → option_and_then (λ d. if is_plain d then Some d else None) o ≡ Some d
    → has_float d ≡ false
plain_json None d is = absurd (cc is)
plain_json (Some e) d is = let parts = plain_if (has_float e) e d is in rw (← parts.1) parts.0

content_plain : (bytes : List ℕ) (signing : SimpleSigning) → content_of bytes ≡ Some signing
    → has_float signing.optional ≡ false
content_plain bytes signing is = let a = bound (plain_json_of bytes) payload_of signing is in
    signing_plain a.0 signing (plain_json (json_of bytes) a.0 a.1) a.2

payload_plain : (notes : FinMap by_bytes (List ℕ)) (o : Option SimpleSigning) (shows : _)
    → ((signing : SimpleSigning) → o ≡ Some signing → has_float signing.optional ≡ false)
    → option_map (payload_shown notes) o ≡ Some shows → IsPlain shows.signing
payload_plain notes None shows each is = absurd (cc is)
payload_plain notes (Some signing) shows each is =
    let same : payload_shown notes signing ≡ shows = cc is in rw (← same) (each signing refl)

bundle_plain : (d : Data) (shows : _) → shown_by_bundle d ≡ Some shows → IsPlain shows.signing
bundle_plain d shows is = by _ is where
  by : (o : Option _) → option_map (bundle_shown d) o ≡ Some shows → IsPlain shows.signing
  by None is = absurd (cc is)
  by (Some bundle) is = let same : bundle_shown d bundle ≡ shows = cc is in rw (← same) tt

shows_plain : (kind : LayerKind) (content : List ℕ) (notes : FinMap by_bytes (List ℕ)) (shows : _)
    → shown kind content notes ≡ Some shows → IsPlain shows.signing
shows_plain kinds.Payload content notes shows is =
    payload_plain notes (content_of content) shows (content_plain content) is
shows_plain kinds.Bundle content notes shows is =
    let a = bound (plain_json_of content) shown_by_bundle shows is in bundle_plain a.0 shows a.2

layer_plain : (trust : Trust) (layer : SignatureLayer) → LayerOf trust layer → IsPlain layer.simple_signing
layer_plain trust layer of =
    rw of.signing (shows_plain layer.kind layer.content layer.annotations of.shows of.content)

-- ---- a layer that is read again

given : {V : Type 0} {H : V → Type 0} (policy_context : PolicyContext V H) (d : List ℕ) (layer : SignatureLayer)
    → StandsFor policy_context d layer → Gives policy_context.trust d (input_of layer) layer
given policy_context d layer stood = record { from = refl; layer_of = stood.layer_of; is_named = stood.is_named }

same_layer : (again layer : SignatureLayer) → input_of again ≡ input_of layer → Reading again layer → again ≡ layer
same_layer again layer from reading =
    let kind : again.kind ≡ layer.kind = ap (λ x. x.kind) from in
    let content : again.content ≡ layer.content = ap (λ x. x.content) from in
    let digest : again.oci_digest ≡ layer.oci_digest = ap (λ x. x.oci_digest) from in
    let annotations : again.annotations ≡ layer.annotations = ap (λ x. x.annotations) from in
    rw (kind, content, digest, annotations, reading.signing, reading.signature, reading.certificate, reading.entry) refl

-- without a constraint, no layer satisfies the policy
pub unconstrained : {V : Type 0} {H : V → Type 0} (policy_context : PolicyContext V H) (d : List ℕ) (layer : SignatureLayer)
    → length policy_context.policy.constraints ≡ 0 → IsTrue false ↔ StandsFor policy_context d layer
unconstrained policy_context d layer none = (λ h. absurd (cc h), λ s. absurd (omega (arith, none, s.constrained)))

-- a layer whose fields differ from what its bytes state does not stand for the image
pub another : {V : Type 0} {H : V → Type 0} (policy_context : PolicyContext V H) (d : List ℕ) (again layer : SignatureLayer)
    → Gives policy_context.trust d (input_of layer) again → HasOneOutcome policy_context.trust d (input_of layer)
    → same_reading again layer ≡ false → IsTrue false ↔ StandsFor policy_context d layer
another policy_context d again layer gives law differs = (
  λ h. absurd (cc h),
  λ s.
      let same : again ≡ layer = law.one_layer again layer gives (given policy_context d layer s) in
      let passes : same_reading again layer ≡ true = rw same (reading_same layer (layer_plain policy_context.trust layer s.layer_of)) in
      absurd (cc (sym differs ∙ passes)),
)

-- a layer whose fields are what its bytes state stands for the image if and only if it is signed and accepted
pub supported : {V : Type 0} {H : V → Type 0} (policy_context : PolicyContext V H) (d : List ℕ) (again layer : SignatureLayer) (b : Bool)
    → Gives policy_context.trust d (input_of layer) again → same_reading again layer ≡ true
    → {X : Type 0} (xs : List X) → length xs ≡ length policy_context.policy.constraints → false ≡ (length xs == 0)
    → (IsTrue b ↔ SatisfiesPolicy policy_context.trust.valid policy_context.policy policy_context.own layer) → IsTrue b ↔ StandsFor policy_context d layer
supported policy_context d again layer b gives passes xs long not_none exact = (
  λ h. let same : again ≡ layer = same_layer again layer gives.from (reading_is again layer passes) in
      record {
        layer_of = rw (← same) gives.layer_of;
        is_named = rw (← same) gives.is_named;
        constrained = rw (← long) (some (length xs) not_none);
        supports = exact.0 h;
      },
  λ s. exact.1 s.supports,
) where
  some : (n : ℕ) → false ≡ (n == 0) → 0 < n
  some zero is = absurd (cc is)
  some (suc n) is = omega arith

-- a layer that is rejected does not stand for the image
pub rejected : {V : Type 0} {H : V → Type 0} (policy_context : PolicyContext V H) (d : List ℕ) (layer : SignatureLayer) (x : LayerRejection)
    → RejectedUnlessMemory policy_context.trust d (input_of layer) x → is_memory x ≡ false
    → HasOneOutcome policy_context.trust d (input_of layer) → IsTrue false ↔ StandsFor policy_context d layer
rejected policy_context d layer x rejects no_memory law = (
  λ h. absurd (cc h),
  λ s.
      absurd (law.not_both layer x (given policy_context d layer s) (of (is_memory x) no_memory rejects)),
) where
  of : (b : Bool) → b ≡ false → MatchBool b (Unit {0}) (Rejected policy_context.trust d (input_of layer) x)
      → Rejected policy_context.trust d (input_of layer) x
  of true is r = absurd (cc is)
  of false is r = r

pub ruleset standing_rules = (unconstrained, another, supported, rejected)
