-- Images that are decided one after another.
use Rattle.std.proofs.Common.{◌≡◌, ℕ, ◌+◌, ◌∙◌, List, [], ◌∷◌, ◌++◌, length, length-append, Result, Ok, Err, refl, sym, ap, subst, append_assoc, append-nil, arith}
use Rattle.registry_calls.specs.Clients.{Kept}
use Rattle.cosign_chain.specs.declared.verified_documents.VerifiedDocuments.{VerifiedDocuments}
use Rattle.cosign_rows.specs.declared.refusal.PullRefusal.{PullRefusal}
use Rattle.live_admit.specs.declared.rule.Rule.{Rule}
use Rattle.pod_reviews.specs.declared.places.PlacedImage.{PlacedImage}
use Rattle.pod_reviews.specs.declared.verdict.Verdict.{Verdict}
use Rattle.live_host.specs.Wire.{Wire}
use Rattle.live_host.specs.declared.streams.HostError.{HostError}
use Rattle.live_pull.specs.declared.settings.LiveSettings.{LiveSettings}
use Rattle.live_pull.specs.declared.status.Status.{Status}
use Rattle.live_pull.specs.Decided.{DecidedFrom, Decides, UndecidedFrom}
use Rattle.live_admit.specs.Clients.{AreIn, Gives, Leads, States}
use Rattle.live_admit.specs.Decided.{DecidedBy, ImageCut, ImageDecided, ImagesCut, ImagesDecided, VerdictOf}
use Rattle.live_admit.specs.declared.clients.RuleClient.{RuleClient}
use Rattle.live_admit.proofs.Ends.{cause_as, never_cut}

-- the verdict of documents that were decided on
pub verdict_by : (settings : LiveSettings) (k l : Kept) (old new : Wire) (outcome : Result VerifiedDocuments PullRefusal) (verdict : Result Verdict Status)
    → Decides (λ r. DecidedFrom settings k l r old new) (λ e. UndecidedFrom settings k l e old new) (Ok outcome) → Gives (VerdictOf outcome) (λ e. ⊥) verdict
    → Gives (λ v. DecidedBy settings k l v old new) (λ e. UndecidedFrom settings k l e old new) verdict
verdict_by settings k l old new (Ok d) (Ok v) decided is = record { outcome = Ok d; documents = decided; verdict = is }
verdict_by settings k l old new (Err e) (Ok v) decided is = record { outcome = Err e; documents = decided is.0; verdict = is }
verdict_by settings k l old new (Ok d) (Err s) decided is = never_cut (λ e. UndecidedFrom settings k l e old new) s is
verdict_by settings k l old new (Err e) (Err s) decided is = never_cut (λ e. UndecidedFrom settings k l e old new) s is

-- the first image was not decided
cut_first : (before : States) (moment : ℕ) (x : PlacedImage) (rest : List PlacedImage) (e : HostError) (old new : Wire) → ImageCut before moment x.image e old new → ImagesCut before moment (x ∷ rest) e old new
cut_first before moment x rest e old new cut = record { done = []; next = x; rest = rest; are = refl; verdicts = []; mid = before; decided_at = old; decided = (refl, refl); cut = cut }

-- a later one was not
cut_later : (before mid : States) (moment : ℕ) (x : PlacedImage) (rest : List PlacedImage) (v : Verdict) (e : HostError) (old between new : Wire) → ImageDecided before mid moment x.image v old between → ImagesCut mid moment rest e between new → ImagesCut before moment (x ∷ rest) e old new
cut_later before mid moment x rest v e old between new one cut = record {
  done = x ∷ cut.done;
  next = cut.next;
  rest = cut.rest;
  are = ap (λ (xs : List PlacedImage). x ∷ xs) cut.are;
  verdicts = v ∷ cut.verdicts;
  mid = cut.mid;
  decided_at = cut.decided_at;
  decided = (mid, between, one, cut.decided);
  cut = cut.cut;
}

-- Whatever the rest leads to, the images that were decided and the rest lead to: from each state of the clients at the
-- beginning to the one in which they are now, and on.
pub record Reached (held : List (Rule RuleClient)) (before : States) (moment : ℕ) (all rest : List PlacedImage) (done : List Verdict) (old now : Wire) : Type 0 where
  pub mid : States
  pub are_in : AreIn held mid
  pub more : (end : Wire) (after : States) (vs : List Verdict) → ImagesDecided mid after moment rest vs now end → ImagesDecided before after moment all (done ++ vs) old end
  pub cut : (e : HostError) (end : Wire) → ImagesCut mid moment rest e now end → ImagesCut before moment all e old end

abbrev pub SoFar : List (Rule RuleClient) → List (Rule RuleClient) → ℕ → List PlacedImage → List PlacedImage → List Verdict → Wire → Wire → Type 0
SoFar first held moment all rest done old now = (before : States) → AreIn first before → Reached held before moment all rest done old now

pub none_decided : (held : List (Rule RuleClient)) (moment : ℕ) (all : List PlacedImage) (old : Wire) → SoFar held held moment all all [] old old
none_decided held moment all old = λ before are_in. record { mid = before; are_in = are_in; more = λ end after vs h. h; cut = λ e end h. h }

pub one_more : (first held next_held : List (Rule RuleClient)) (moment : ℕ) (all rest : List PlacedImage) (x : PlacedImage) (done after_done : List Verdict) (v : Verdict) (old now next : Wire)
    → SoFar first held moment all (x ∷ rest) done old now → Leads held next_held (λ before after v. ImageDecided before after moment x.image v now next) (λ before e. ImageCut before moment x.image e now next) (Ok v) → after_done ≡ done ++ v ∷ [] → SoFar first next_held moment all rest after_done old next
one_more first held next_held moment all rest x done after_done v old now next before one is = λ start are_in.
    let reached = before start are_in in
    let led = one reached.mid reached.are_in in
    record {
      mid = led.0;
      are_in = led.1;
      more = λ end after vs h.
          subst (λ (ys : List Verdict). ImagesDecided start after moment all (ys ++ vs) old end) (sym is)
          (subst (λ (ys : List Verdict). ImagesDecided start after moment all ys old end) (sym (append_assoc done (v ∷ []) vs)) (reached.more end after (v ∷ vs) (led.0, next, led.2, h)));
      cut = λ e end h. reached.cut e end (cut_later reached.mid led.0 moment x rest v e now next end led.2 h);
    }

-- one more verdict for one image less
pub one_judged : (done after_done : List Verdict) (v : Verdict) (rest more all : List PlacedImage) (x : PlacedImage) → after_done ≡ done ++ v ∷ [] → rest ≡ x ∷ more → length done + length rest ≡ length all → length after_done + length more ≡ length all
one_judged done after_done v rest more all x is rest_is so_far =
    let longer : length after_done ≡ length done + 1 = ap length is ∙ length-append done (v ∷ []) in
    let shorter : length rest ≡ length more + 1 = ap length rest_is ∙ (omega arith) in
    omega (arith, longer, shorter, so_far)

nothing_left : (xs : List PlacedImage) → length xs ≡ 0 → xs ≡ []
nothing_left [] h = refl
nothing_left (x ∷ xs) h = absurd (omega (arith, h))

pub all_decided : (first held : List (Rule RuleClient)) (moment : ℕ) (all rest : List PlacedImage) (done : List Verdict) (old now : Wire) → length rest ≡ 0 → SoFar first held moment all rest done old now
    → Leads first held (λ before after vs. ImagesDecided before after moment all vs old now) (λ before e. ImagesCut before moment all e old now) (Ok done)
all_decided first held moment all rest done old now none so_far = λ before are_in.
    let reached = so_far before are_in in (
      reached.mid,
      reached.are_in,
      subst (λ (ys : List Verdict). ImagesDecided before reached.mid moment all ys old now) (append-nil done)
          (reached.more now reached.mid [] (subst (λ (xs : List PlacedImage). ImagesDecided reached.mid reached.mid moment xs [] now now) (sym (nothing_left rest none)) (refl, refl))),
    )

-- an image was not decided
pub ended_images : (first held : List (Rule RuleClient)) (moment : ℕ) (all rest : List PlacedImage) (x : PlacedImage) (done : List Verdict) (s : Status) (next_held : List (Rule RuleClient)) (old now next : Wire)
    → SoFar first held moment all (x ∷ rest) done old now → Leads held next_held (λ before after v. ImageDecided before after moment x.image v now next) (λ before e. ImageCut before moment x.image e now next) (Err s)
    → Leads {A = List Verdict} first next_held (λ before after vs. ImagesDecided before after moment all vs old next) (λ before e. ImagesCut before moment all e old next) (Err s)
ended_images first held moment all rest x done s next_held old now next so_far one = λ before are_in.
    let reached = so_far before are_in in
    cause_as (λ e. ImageCut reached.mid moment x.image e now next) (λ e. ImagesCut before moment all e old next) s
    (λ e cut. reached.cut e next (cut_first reached.mid moment x rest e now next cut)) (one reached.mid reached.are_in)
