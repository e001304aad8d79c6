-- The texts of an entry.
use Rattle.std.proofs.Common.{◌≡◌, ℕ, Bool, true, false, ◌&&◌, List, Result, Ok, Err, refl, sym, ap, ◌∙◌}
use Rattle.std.specs.Str.{IsUtf8, is_utf8}
use Rattle.std.proofs.lemmas.Str.{IsUtf8-from_is_utf8, is_utf8-from_IsUtf8}
use Rattle.cosign_chain.specs.declared.image.VerifiedImage.{VerifiedImage}
use Rattle.cosign_chain.specs.declared.verified_documents.VerifiedDocuments.{VerifiedDocuments}
use Rattle.pull_lock.specs.Entries.{GivesText, entry_by, texts_in}
use Rattle.pull_lock.specs.Locked.{entry_with}
use Rattle.pull_lock.specs.LockedDocuments.{documents_entry}
use Rattle.pull_lock.specs.declared.entry.Texts.{Texts}
use Rattle.pull_lock.specs.declared.lock.LockEntry.{LockEntry}
use Rattle.pull_lock.specs.declared.error.LockError.TheVariants as error

-- bytes that are UTF-8
pub a_text : (bytes slice text : List ℕ) → slice ≡ bytes → text ≡ slice → IsUtf8 slice → GivesText bytes (Ok text)
a_text bytes slice text is same utf8 = (same ∙ is, ap is_utf8 (sym is) ∙ is_utf8-from_IsUtf8 slice utf8)

-- bytes that are not
pub no_text : (bytes slice : List ℕ) → slice ≡ bytes → (IsUtf8 slice → ⊥) → GivesText bytes (Err error.NotText)
no_text bytes slice is other = ap is_utf8 (sym is) ∙ by_test (is_utf8 slice) refl where
  by_test : (b : Bool) → is_utf8 slice ≡ b → is_utf8 slice ≡ false
  by_test true e = absurd (other (IsUtf8-from_is_utf8 slice e))
  by_test false e = e

-- the entry with the texts of an image
pub image_entry : (image : List ℕ) (accepted : List (List ℕ)) (found : VerifiedImage) (texts : Texts) (e : LockEntry) → texts ≡ texts_in found.first found.manifest_bytes found.signature.content
    → e ≡ entry_by image accepted found.digest found.manifest_digest found.signature texts → e ≡ entry_with image accepted found
image_entry image accepted found texts e are is = is ∙ ap (λ (t : Texts). entry_by image accepted found.digest found.manifest_digest found.signature t) are

-- the entry with the texts of documents alone
pub entry_of_documents : (image : List ℕ) (accepted : List (List ℕ)) (d : VerifiedDocuments) (texts : Texts) (e : LockEntry) → texts ≡ texts_in d.first d.manifest_bytes d.signature.content
    → e ≡ entry_by image accepted d.digest d.manifest_digest d.signature texts → e ≡ documents_entry image accepted d
entry_of_documents image accepted d texts e are is = is ∙ ap (λ (t : Texts). entry_by image accepted d.digest d.manifest_digest d.signature t) are
