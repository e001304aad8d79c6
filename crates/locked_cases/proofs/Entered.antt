-- From cases to the entries of their images.
use Rattle.std.proofs.Common.{◌≡◌, ◌<◌, ℕ, ◌+◌, take, get_or, Bool, true, false, ◌&&◌, IsTrue, List, [], ◌∷◌, ◌++◌, map, length, Result, Ok, Err, refl, sym, ap, subst, ◌∙◌}
use Rattle.std.specs.Prelude.{IfOk, MatchBool}
use Rattle.std.specs.List.{All, list_all, zip}
use Rattle.std.specs.Ordering.{is_lt}
use Rattle.std.specs.declared.alloc.AllocError.{AllocError}
use Rattle.std.proofs.lemmas.List.Elements.{All-head, All-tail}
use Rattle.json_values.specs.Places.{by_bytes}
use Rattle.json_values.proofs.Fronts.{front_more, map_push}
use Rattle.oci_names.specs.Reference.{whole_text}
use Rattle.registry_calls.specs.Direct.{reference_in}
use Rattle.cosign_rows.specs.declared.refusal.PullRefusal.{PullRefusal}
use Rattle.cosign_chain.specs.declared.image.VerifiedImage.{VerifiedImage}
use Rattle.recorded_case.specs.declared.case.Case.{Case}
use Rattle.pulled_cases.specs.Once.{PulledOnce}
use Rattle.pulled_cases.specs.declared.once.OnePull.{OnePull}
use Rattle.pulled_cases.specs.declared.report.Report.{Report}
use Rattle.pull_lock.specs.Files.{is_before, increases, IsFileOf}
use Rattle.pull_lock.specs.Locked.{entry_with}
use Rattle.pull_lock.specs.declared.lock.Lock.{Lock}
use Rattle.pull_lock.specs.declared.lock.LockEntry.{LockEntry}
use Rattle.locked_cases.specs.Entering.{AsksFor, Enters, EntersCase}
use Rattle.locked_cases.specs.Input.{whole_named, whole_of, ascending, AreReady}
use Rattle.locked_cases.specs.Locks.{PulledTo, HasEntry, HasCause, HaveEntries, RefusesCase, WritesFile, WritesRefusal, LocksCases, refused_line}
use Rattle.locked_cases.specs.declared.input.LockInput.{LockInput}
use Rattle.locked_cases.specs.declared.lock.Asked.{Asked}
use Rattle.locked_cases.specs.declared.refused.Cause.TheVariants.{NotText, Pull}
use Rattle.locked_cases.specs.declared.refused.Refused.{Refused}

-- ---- one case

pulled_to : (case : Case) (pull : OnePull) (result : Result VerifiedImage PullRefusal) → PulledOnce case pull → pull.outcome ≡ result → PulledTo case result
pulled_to case pull result once is = record { talk = once.talk; pulled = once.pulled; is = once.outcome ∙ is }

-- the whole text of the requested reference
whole_is : (case : Case) (asked : Asked) → AsksFor case asked → whole_text (reference_in asked.image) ≡ whole_of case
whole_is case asked a = ap whole_named (sym a.image)

enters : (case : Case) (asked : Asked) (pull : OnePull) (found : VerifiedImage) (r : Result LockEntry Refused) → AsksFor case asked → PulledOnce case pull → pull.outcome ≡ Ok found → Enters asked found r → EntersCase case r
enters case asked pull found (Ok e) a once is h = record {
  found = found;
  pulled = pulled_to case pull (Ok found) once is;
  text = h.0;
  is = h.1 ∙ (λ i. entry_with (whole_is case asked a i) (a.accepted i) found);
}
enters case asked pull found (Err r) a once is h =
    let image : r.image ≡ asked.whole = ap (λ (x : Refused). x.image) h.1 in
    let cause : r.cause ≡ NotText = ap (λ (x : Refused). x.cause) h.1 in
    (image ∙ a.whole, subst (HasCause case) (sym cause) (found, pulled_to case pull (Ok found) once is, h.0))

pub entered : (case : Case) (asked : Asked) (pull : OnePull) (found : VerifiedImage) (r : Result (Result LockEntry Refused) AllocError) → AsksFor case asked → PulledOnce case pull → pull.outcome ≡ Ok found → IfOk r (Enters asked found) → IfOk r (EntersCase case)
entered case asked pull found (Ok made) a once is h = enters case asked pull found made a once is h
entered case asked pull found (Err e) a once is h = tt

pub refused : (case : Case) (asked : Asked) (pull : OnePull) (refusal : PullRefusal) → AsksFor case asked → PulledOnce case pull → pull.outcome ≡ Err refusal → EntersCase case (Err (record { image = asked.whole; cause = Pull refusal }))
refused case asked pull refusal a once is = (a.whole, pulled_to case pull (Err refusal) once is)

-- ---- several cases

pub more : (cases : List Case) (entries : List LockEntry) (case : Case) (e : LockEntry) → HaveEntries cases entries → HasEntry case e → HaveEntries (cases ++ case ∷ []) (entries ++ e ∷ [])
more [] [] case e h one = (one, tt)
more [] (f ∷ entries) case e h one = absurd h
more (first ∷ cases) [] case e h one = absurd h
more (first ∷ cases) (f ∷ entries) case e h one = (h.0, more cases entries case e h.1 one)

-- one more case that has an entry
pub one_more : (cases : List Case) (entries : List LockEntry) (case : Case) (r : Result LockEntry Refused) (e : LockEntry) → r ≡ Ok e → EntersCase case r → HaveEntries cases entries → HaveEntries (cases ++ case ∷ []) (entries ++ e ∷ [])
one_more cases entries case r e is h each = more cases entries case e each (subst (EntersCase case) is h)

-- a property of each case holds of the one at this place
pub at_place : (P : Case → Type 0) (before after : List Case) (case : Case) (all : List Case) → before ++ case ∷ after ≡ all → All P all → P case
at_place P before after case all is h = within before (subst (All P) (sym is) h) where
  within : (before : List Case) → All P (before ++ case ∷ after) → P case
  within [] h = All-head P case after h
  within (first ∷ before) h = within before (All-tail P first (before ++ case ∷ after) h)

pub refuses : (before after all : List Case) (case : Case) (entries : List LockEntry) (r : Refused) → before ++ case ∷ after ≡ all → HaveEntries before entries → EntersCase case (Err r) → RefusesCase all r
refuses before after all case entries r is each h = record { before = before; case = case; after = after; split = sym is; entries = entries; each = each; image = h.0; cause = h.1 }

-- ---- the entries increase as the whole texts do

images : (cases : List Case) (entries : List LockEntry) → HaveEntries cases entries → map (λ (e : LockEntry). e.image) entries ≡ map whole_of cases
images [] [] h = refl
images [] (e ∷ entries) h = absurd h
images (case ∷ cases) [] h = absurd h
images (case ∷ cases) (e ∷ entries) h = λ i. (ap (λ (x : LockEntry). x.image) h.0.is i) ∷ (images cases entries h.1 i)

pairs : (xs ys : List LockEntry) → list_all (λ p. is_before p.0 p.1) (zip xs ys) ≡ list_all (λ p. is_lt (by_bytes p.0 p.1)) (zip (map (λ (e : LockEntry). e.image) xs) (map (λ (e : LockEntry). e.image) ys))
pairs [] ys = refl
pairs (x ∷ xs) [] = refl
pairs (x ∷ xs) (y ∷ ys) = ap (λ b. is_before x y && b) (pairs xs ys)

rising : (entries : List LockEntry) → increases entries ≡ ascending (map (λ (e : LockEntry). e.image) entries)
rising [] = refl
rising (e ∷ entries) = pairs (e ∷ entries) entries

pub in_order : (input : LockInput) (entries : List LockEntry) → HaveEntries input.cases entries → AreReady input → IsTrue (increases entries)
in_order input entries h ready = rising entries ∙ ap ascending (images input.cases entries h) ∙ ready.order

-- ---- the output

pub file_written : (input : LockInput) (lock : Lock) (r : Result Report AllocError) → HaveEntries input.cases lock.entries → IfOk r (λ made. (made.refused ≡ false) × IsFileOf lock made.bytes) → IfOk r (LocksCases input)
file_written input lock (Ok made) each h = by made.refused h.0 where
  by : (b : Bool) → b ≡ false → MatchBool b (WritesRefusal input.cases made.bytes) (WritesFile input.cases made.bytes)
  by true is = absurd (cc is)
  by false is = record { entries = lock.entries; each = each; file = h.1 }
file_written input lock (Err e) each h = tt

pub refusal_written : (input : LockInput) (refused : Refused) (r : Result Report AllocError) → RefusesCase input.cases refused → IfOk r (λ made. made ≡ record { bytes = refused_line refused; refused = true }) → IfOk r (LocksCases input)
refusal_written input refused (Ok made) first h = subst (LocksCases input) (sym h) (record { refused = refused; first = first; line = refl })
refusal_written input refused (Err e) first h = tt

-- ---- the whole texts

pub wholes_more : (texts new : List (List ℕ)) (cases : List Case) (i : ℕ) (case : Case) (text : List ℕ) → i < length cases → case ≡ get_or cases i case → texts ≡ map whole_of (take i cases) → text ≡ whole_of case → new ≡ texts ++ text ∷ []
    → new ≡ map whole_of (take (i + 1) cases)
wholes_more texts new cases i case text h is so_far text_is new_is =
    new_is ∙ (λ j. so_far j ++ text_is j ∷ []) ∙ sym (map_push whole_of (take i cases) case) ∙ ap (map whole_of) (sym (front_more cases i case h is))

pub rises : (texts others : List (List ℕ)) (text : List ℕ) (b : Bool) → texts ≡ text ∷ others → b ≡ list_all (λ p. is_lt (by_bytes p.0 p.1)) (zip texts others) → b ≡ ascending texts
rises texts others text b split is = is ∙ ap (λ (ts : List (List ℕ)). list_all (λ p. is_lt (by_bytes p.0 p.1)) (zip ts others)) split ∙ ap ascending (sym split)
