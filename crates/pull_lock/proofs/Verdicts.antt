-- The verdict on a list of entries.
use Rattle.std.proofs.Common.{◌≡◌, ◌<◌, ◌↔◌, ℕ, ◌+◌, Bool, true, false, IsTrue, List, [], ◌∷◌, ◌++◌, take, drop, length, get_or, refl, sym, ap, subst, ◌∙◌, append_assoc}
use Rattle.std.specs.List.{All}
use Rattle.std.proofs.lemmas.List.{take-append-drop, take_all}
use Rattle.std.proofs.lemmas.List.Elements.{All-push}
use Rattle.json_values.proofs.Fronts.{front_more}
use Rattle.pull_lock.specs.Locked.{Judges}
use Rattle.pull_lock.specs.declared.lock.LockEntry.{LockEntry}
use Rattle.pull_lock.specs.declared.checking.LockVerdict.TheVariants.{Holds, Fails}

-- the entries up to and with this one
front : (entries : List LockEntry) (i : ℕ) (e : LockEntry) → i < length entries → e ≡ get_or entries i e → entries ≡ take i entries ++ e ∷ drop (i + 1) entries
front entries i e h is =
    sym (take-append-drop (i + 1) entries) ∙ ap (λ (es : List LockEntry). es ++ drop (i + 1) entries) (front_more entries i e h is)
    ∙ append_assoc (take i entries) (e ∷ []) (drop (i + 1) entries)

module _ (P : LockEntry → Type 0) where
  -- one more entry that is locked
  pub one_more : (entries : List LockEntry) (i : ℕ) (e : LockEntry) (b : Bool) → i < length entries → e ≡ get_or entries i e → IsTrue b ↔ P e → b ≡ true
      → All P (take i entries) → All P (take (i + 1) entries)
  one_more entries i e b h is exact holds all = subst (All P) (sym (front_more entries i e h is)) (All-push P (take i entries) e all (exact.0 holds))

  -- the first one that is not
  pub fails : (entries : List LockEntry) (i : ℕ) (e : LockEntry) (b : Bool) (image : List ℕ) → i < length entries → e ≡ get_or entries i e → IsTrue b ↔ P e → b ≡ false
      → All P (take i entries) → image ≡ e.image → Judges P entries (Fails image)
  fails entries i e b image h is exact not_held all same =
      (take i entries, drop (i + 1) entries, e, front entries i e h is, all, (λ p. absurd (cc (sym not_held ∙ exact.1 p))), same)
