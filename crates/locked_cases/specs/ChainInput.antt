-- The input of `check`: a case, and a chain that is checked against it.
use Rattle.std.specs.Prelude.{ℕ, List, [], ◌∷◌, Option, Some, None, option_map, if◌then◌else◌, codes, bytes_eq}
use Rattle.serde_json.specs.Data.{Data}
use Rattle.json_values.specs.JsonText.{plain_json_of}
use Rattle.json_tables.specs.Reading.{◌>>=◌, text_of, list_of, map_of}
use Rattle.json_tables.specs.Objects.{only}
use Rattle.json_tables.specs.Member.{required, at_name}
use Rattle.json_tables.specs.Bytes.{bytes_of}
use Rattle.cosign_parts.specs.declared.layer.LayerKind.{LayerKind}
use Rattle.cosign_parts.specs.declared.layer.LayerKind.TheVariants.{Payload, Bundle}
use Rattle.recorded_case.specs.Case.{case_of}
use Rattle.recorded_case.specs.Members.{unless_absent}
use Rattle.locked_cases.specs.declared.chain_input.ChainInput.{ChainInput}
use Rattle.locked_cases.specs.declared.chain_input.WrittenChain.{WrittenChain}
use Rattle.locked_cases.specs.declared.chain_input.WrittenEntry.{WrittenEntry}
use Rattle.locked_cases.specs.declared.chain_input.WrittenSignature.{WrittenSignature}

-- the form of a signature layer
abbrev pub kind_named : List ℕ → Option LayerKind
kind_named text =
    if bytes_eq text (codes "payload") then Some Payload
    else (if bytes_eq text (codes "bundle") then Some Bundle else None)

abbrev pub kind_of : Data → Option LayerKind
kind_of d = text_of d >>= kind_named

-- a signature layer: its form, its bytes and its annotations
unfoldable pub signature_of : Data → Option WrittenSignature
signature_of d = do
  known ← only (codes "kind" ∷ codes "content" ∷ codes "annotations" ∷ []) d
  kind ← required kind_of (codes "kind") d
  content ← required bytes_of (codes "content") d
  annotations ← required (map_of text_of) (codes "annotations") d
  Some (record { kind = kind; content = content; annotations = annotations })

-- the document that an index led to, by its digest
unfoldable pub entry_of : Data → Option WrittenEntry
entry_of d = do
  known ← only (codes "digest" ∷ codes "content" ∷ []) d
  digest ← required text_of (codes "digest") d
  content ← required bytes_of (codes "content") d
  Some (record { digest = digest; content = content })

abbrev pub some_entry_of : Data → Option (Option WrittenEntry)
some_entry_of d = option_map Some (entry_of d)

-- the members of a chain
abbrev pub chain_members : List (List ℕ)
chain_members =
    codes "digest"
    ∷ codes "first"
    ∷ codes "entry"
    ∷ codes "config"
    ∷ codes "layers"
    ∷ codes "signature"
    ∷ []

-- The documents and blobs of an image, and its signature layer. If the entry is absent, the first document is the
-- manifest.
unfoldable pub chain_of : Data → Option WrittenChain
chain_of d = do
  known ← only chain_members d
  entry ← at_name (unless_absent None some_entry_of) (codes "entry") d
  digest ← required text_of (codes "digest") d
  first ← required bytes_of (codes "first") d
  config ← required bytes_of (codes "config") d
  layers ← required (list_of bytes_of) (codes "layers") d
  signature ← required signature_of (codes "signature") d
  Some (record {
    digest = digest;
    first = first;
    entry = entry;
    config = config;
    layers = layers;
    signature = signature;
  })

-- a case and a chain; no other members
unfoldable pub chain_input_of : Data → Option ChainInput
chain_input_of d = do
  known ← only (codes "case" ∷ codes "chain" ∷ []) d
  chain ← required chain_of (codes "chain") d
  case ← required case_of (codes "case") d
  Some (record { case = case; chain = chain })

-- the case and the chain in a JSON text without floats
abbrev pub chain_input_in : List ℕ → Option ChainInput
chain_input_in bytes = plain_json_of bytes >>= chain_input_of
