-- Which signatures a table's rows make valid.
use Rattle.std.specs.Prelude.{ℕ, List, Bool, ◌&&◌, bytes_eq}
use Rattle.std.specs.List.{list_any}
use Rattle.oci_digests.specs.Names.{names}
use Rattle.cosign_parts.specs.declared.verifier.SignedRow.{SignedRow}
use Rattle.cosign_parts.specs.declared.verifier.TableVerifier.{TableVerifier}

-- the row has this key and this signature
abbrev pub is_of : List ℕ → List ℕ → SignedRow → Bool
is_of key signature row = bytes_eq row.key key && bytes_eq row.signature signature

-- the row has this key and this signature, and its text names the message
abbrev pub is_valid_by : List ℕ → List ℕ → List ℕ → SignedRow → Bool
is_valid_by key message signature row = is_of key signature row && names row.message message

-- some row makes the signature valid
abbrev pub valid_in : TableVerifier → List ℕ → List ℕ → List ℕ → Bool
valid_in table key message signature = list_any (is_valid_by key message signature) table.rows
