-- The heads of the frames that are sent.
use Rattle.std.specs.Prelude.{ℕ, ℤ, List, [], ◌∷◌, Some, codes}
use Rattle.std.specs.FinMap.{FinMap}
use Rattle.base64.specs.Engines.{standard}
use Rattle.base64.specs.GeneralPurpose.{encode_of}
use Rattle.json_tables.specs.Fields.{Field, fields}
use Rattle.serde_json.specs.Data.{Data, string, number, unsigned}
use Rattle.serde_json.specs.Find.{of_integer}
use Rattle.json_values.specs.Places.{by_bytes}
use Rattle.json_values.specs.Writing.{map_written}
use Rattle.cosign_parts.specs.declared.layer.LayerKind.{LayerKind}
use Rattle.cosign_parts.specs.declared.layer.LayerKind.TheVariants.{Payload, Bundle}

-- bytes in padded standard base64 (RFC 4648, 4)
abbrev pub base64_text : List ℕ → List ℕ
base64_text bytes = encode_of standard bytes

abbrev pub text_field : List ℕ → List ℕ → Field
text_field name text = (name, Some (string text))

abbrev pub count_field : List ℕ → ℕ → Field
count_field name n = (name, Some (number (unsigned n)))

abbrev pub begin_head : Data
begin_head = fields (text_field (codes "frame") (codes "begin") ∷ count_field (codes "version") 1 ∷ [])

-- asks whether this key makes the signature valid for the bytes after the line
abbrev pub verify_head : List ℕ → List ℕ → ℕ → Data
verify_head key signature count =
    fields (text_field (codes "frame") (codes "verify")
    ∷ text_field (codes "key") (base64_text key)
    ∷ text_field (codes "signature") (base64_text signature)
    ∷ count_field (codes "bytes") count
    ∷ [])

-- asks what is vouched for a certificate at a time, in seconds since 1970
abbrev pub judge_head : List ℕ → ℤ → Data
judge_head certificate time =
    fields (text_field (codes "frame") (codes "judge")
    ∷ text_field (codes "certificate") (base64_text certificate)
    ∷ (codes "integrated_time", Some (number (of_integer time)))
    ∷ [])

-- bytes of an image after the line: the frame's name, their kind, their media type and their digest
abbrev pub item_head : List ℕ → List ℕ → List ℕ → List ℕ → ℕ → Data
item_head frame kind media_type digest count =
    fields (text_field (codes "frame") frame
    ∷ text_field (codes "kind") kind
    ∷ text_field (codes "media_type") media_type
    ∷ text_field (codes "digest") digest
    ∷ count_field (codes "bytes") count
    ∷ [])

-- the name of a signature layer's form
abbrev pub kind_name : LayerKind → List ℕ
kind_name Payload = codes "payload"
kind_name Bundle = codes "bundle"

-- a signature layer's content after the line: its form, its digest and its annotations
abbrev pub signature_head : List ℕ → List ℕ → FinMap by_bytes (List ℕ) → ℕ → Data
signature_head kind digest annotations count =
    fields (text_field (codes "frame") (codes "signature")
    ∷ text_field (codes "kind") kind
    ∷ text_field (codes "digest") digest
    ∷ (codes "annotations", Some (map_written string annotations))
    ∷ count_field (codes "bytes") count
    ∷ [])

-- the digest that was returned, the manifest's, and that of the signature layer's content
abbrev pub pulled_head : List ℕ → List ℕ → List ℕ → Data
pulled_head digest manifest signature =
    fields (text_field (codes "frame") (codes "pulled")
    ∷ text_field (codes "digest") digest
    ∷ text_field (codes "manifest") manifest
    ∷ text_field (codes "signature") signature
    ∷ [])

-- the lines of an error
abbrev pub refused_head : List ℕ → Data
refused_head report =
    fields (text_field (codes "frame") (codes "refused") ∷ text_field (codes "report") report ∷ [])
