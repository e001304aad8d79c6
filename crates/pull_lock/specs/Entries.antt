-- The parts of an entry that are texts.
use Rattle.std.specs.Prelude.{◌≡◌, ℕ, true, false, List, Result, Ok, Err, ⊤}
use Rattle.std.specs.Str.{is_utf8}
use Rattle.cosign_parts.specs.declared.layer.SignatureLayer.{SignatureLayer}
use Rattle.pull_lock.specs.Locked.{all_text}
use Rattle.pull_lock.specs.declared.entry.Texts.{Texts}
use Rattle.pull_lock.specs.declared.lock.LockEntry.{LockEntry}
use Rattle.pull_lock.specs.declared.error.LockError.{LockError}
use Rattle.pull_lock.specs.declared.error.LockError.TheVariants as error

-- the bytes, which are UTF-8, or `NotText` if they are not, or out of memory
abbrev pub GivesText : List ℕ → Result (List ℕ) LockError → Type 0
GivesText bytes (Ok text) = (text ≡ bytes) × (is_utf8 bytes ≡ true)
GivesText bytes (Err error.NotText) = is_utf8 bytes ≡ false
GivesText bytes (Err error.WantOfMemory) = ⊤
GivesText bytes (Err _) = ⊥

abbrev pub texts_in : List ℕ → List ℕ → List ℕ → Texts
texts_in first manifest content = record { first = first; manifest = manifest; content = content }

-- the same of the documents and the signature layer
abbrev pub GivesTexts : List ℕ → List ℕ → List ℕ → Result Texts LockError → Type 0
GivesTexts first manifest content (Ok texts) =
    (texts ≡ texts_in first manifest content) × (all_text first manifest content ≡ true)
GivesTexts first manifest content (Err error.NotText) = all_text first manifest content ≡ false
GivesTexts first manifest content (Err error.WantOfMemory) = ⊤
GivesTexts first manifest content (Err _) = ⊥

-- the entry with these digests, this signature layer, and these texts
abbrev pub entry_by : List ℕ → List (List ℕ) → List ℕ → List ℕ → SignatureLayer → Texts → LockEntry
entry_by image accepted digest manifest_digest layer texts = record {
  image = image;
  accepted = accepted;
  digest = digest;
  first = texts.first;
  manifest_digest = manifest_digest;
  manifest = texts.manifest;
  signature = record {
    kind = layer.kind;
    oci_digest = layer.oci_digest;
    content = texts.content;
    annotations = layer.annotations;
  };
}
