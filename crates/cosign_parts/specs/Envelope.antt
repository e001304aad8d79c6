-- The text that a layer's signature signs.
use Rattle.std.specs.Prelude.{ℕ, List, [], ◌∷◌, ◌++◌, codes, length, Option, Some, None}
use Rattle.std.specs.Fmt.{decimal}
use Rattle.cosign_parts.specs.Bundle.{envelope_in}
use Rattle.cosign_parts.specs.declared.bundle.Envelope.{Envelope}
use Rattle.cosign_parts.specs.declared.layer.LayerKind.{LayerKind}
use Rattle.cosign_parts.specs.declared.layer.LayerKind.TheVariants as kinds

-- the length of the bytes and the bytes, each after a space
abbrev pub counted : List ℕ → List ℕ
counted bytes = 32 ∷ (decimal (length bytes) ++ 32 ∷ bytes)

-- the pre-authentication encoding of an envelope (DSSE v1)
abbrev pub pre_authentication : Envelope → List ℕ
pre_authentication envelope = codes "DSSEv1" ++ counted envelope.payload_type ++ counted envelope.payload

-- empty for content that is not a bundle
abbrev pub enveloped : Option Envelope → List ℕ
enveloped None = []
enveloped (Some envelope) = pre_authentication envelope

-- the content of a payload, or the encoding of a bundle's envelope
abbrev pub signed_text : LayerKind → List ℕ → List ℕ
signed_text kinds.Payload content = content
signed_text kinds.Bundle content = enveloped (envelope_in content)
