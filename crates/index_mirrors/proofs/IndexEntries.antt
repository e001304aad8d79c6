-- The entries of an index.
use Rattle.std.proofs.Common.{◌≡◌, ◌<◌, ◌+◌, ℕ, true, false, List, [], ◌∷◌, ◌++◌, length, map, take, get_or, bytes_eq, Option, Some, None, refl, sym, ap, subst, ◌∙◌}
use Rattle.std.proofs.lemmas.Slice.Eq.{bytes_eq-Decides}
use Rattle.oci_manifests.specs.declared.index_entry.ImageIndexEntry.{ImageIndexEntry}
use Rattle.oci_names.specs.Reference.{digest_of}
use Rattle.oci_names.specs.declared.reference.Reference.{Reference}
use Rattle.cosign_chain.specs.declared.verified_documents.VerifiedDocuments.{VerifiedDocuments}
use Rattle.pull_mirror.proofs.Pushing.{mapped, next_item}
use Rattle.index_mirrors.specs.Indexes.{AreEntries, digest_in, entries_in, has_digest}

pub listed_more : (xs : List ImageIndexEntry) (i : ℕ) (x : ImageIndexEntry) → i < length xs → x ≡ get_or xs i x → {digests more : List (List ℕ)} {digest : List ℕ} → digests ≡ map digest_in (take i xs) → more ≡ digests ++ digest ∷ [] → digest ≡ x.digest → more ≡ map digest_in (take (i + 1) xs)
listed_more xs i x at is {digests} {more} {digest} so_far pushed digest_is =
    pushed ∙ ap (λ d. digests ++ d ∷ []) digest_is ∙ ap (λ ds. ds ++ x.digest ∷ []) so_far
    ∙ sym (ap (map digest_in) (next_item xs i x at is) ∙ mapped digest_in (take i xs) (x ∷ []))

-- ---- the reference's digest

digest_is : (o : Option (List ℕ)) (own : List ℕ) → has_digest o own ≡ true → o ≡ Some own
digest_is None own has = absurd (cc has)
digest_is (Some digest) own has = ap Some ((bytes_eq-Decides digest own).0 has)

module _ (index : Reference) (d : VerifiedDocuments) where
  pub other_digest : has_digest (digest_of index) d.digest ≡ false → AreEntries index d None
  other_digest other = λ entries is lists.
      let own : bytes_eq d.digest d.digest ≡ false = subst (λ o. has_digest o d.digest ≡ false) is other in
      absurd (cc (sym own ∙ (bytes_eq-Decides d.digest d.digest).1 refl))

  pub entries_read : (found : Option (List (List ℕ))) → has_digest (digest_of index) d.digest ≡ true → found ≡ entries_in d.first → AreEntries index d found
  entries_read None has is = λ entries same lists. absurd (cc (is ∙ lists))
  entries_read (Some entries) has is = (digest_is (digest_of index) d.digest has, sym is)
