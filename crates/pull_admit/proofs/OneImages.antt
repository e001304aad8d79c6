-- The decision about one image.
use Rattle.std.proofs.Common.{◌≡◌, inl, inr, ℕ, suc, ◌+◌, Bool, false, List, [], ◌∷◌, ◌++◌, length, Option, Some, None, Result, Ok, Err, refl, sym, ap, subst, ◌∙◌, append-nil, arith}
use Rattle.std.specs.Prelude.{IfOk, OnOk, IfErr, IsErr, is_ok}
use Rattle.oci_names.specs.Reference.{reference_of, resolved_registry}
use Rattle.oci_names.specs.declared.reference.Reference.{Reference}
use Rattle.oci_names.specs.declared.parse_error.ParseError.{ParseError}
use Rattle.oci_link.specs.declared.shelf.Shelf.{Shelf}
use Rattle.oci_link.specs.State.{answering}
use Rattle.oci_transport.specs.Link.{Link, Answering, Extends}
use Rattle.oci_transport.specs.declared.message.Exchange.{Exchange}
use Rattle.oci_protocol.specs.Runs.{Runs, Performs, Meets, Told}
use Rattle.oci_protocol.proofs.Laws.{Runs-count, RunsBy-runs}
use Rattle.oci_protocol.proofs.Conversations.{Extends-none}
use Rattle.engine_rows.specs.Confined.{Within}
use Rattle.engine_rows.specs.Held.{pulling}
use Rattle.registry_calls.specs.Clients.{Kept}
use Rattle.registry_calls.specs.Error.{FaultCounted}
use Rattle.registry_calls.proofs.NoMirror.{no_mirror}
use Rattle.cosign_chain.specs.declared.image.VerifiedImage.{VerifiedImage}
use Rattle.cosign_laws.proofs.Causes.{pull_causes}
use Rattle.cosign_laws.proofs.Chains.{verified_seen}
use Rattle.cosign_laws.proofs.Images.{Seen}
use Rattle.cosign_rows.specs.Refusal.{is_memory, client_refusal}
use Rattle.cosign_rows.specs.Skips.{HoldsNoMemoryNorSink, OnSkipped}
use Rattle.cosign_rows.specs.Snapshots.{Snapshot, snapshot}
use Rattle.cosign_rows.specs.Sound.{Sound}
use Rattle.cosign_rows.specs.Verified.{Whole}
use Rattle.cosign_rows.specs.declared.refusal.PullRefusal.{PullRefusal}
use Rattle.cosign_rows.specs.declared.refusal.PullRefusal.TheVariants.{WantOfMemory}
use Rattle.cosign_laws.specs.Settled.{IsSettled, StaysSettled}
use Rattle.cosign_laws.specs.Shelves.{AnswersFrom, WideShelf, OkOrMemory}
use Rattle.pull_admit.proofs.Confined.{confined_run}
use Rattle.pull_admit.specs.Causes.{CountsFault, HoldsNoMemory}
use Rattle.pull_admit.specs.Confining.{EachConfined, ConfinedFor}
use Rattle.pull_admit.specs.Decided.{PullTerms, DecidedBy, RanBy, Reviewed, pull_of}
use Rattle.pull_admit.specs.OneImage.{Decided, Keeps, decision_of, is_wanting}
use Rattle.pull_admit.specs.Responses.{IsAllowed}
use Rattle.pull_admit.specs.declared.decision.Decision.{Decision}
use Rattle.pull_admit.specs.declared.decision.Decision.TheVariants.{Allow, Deny}
use Rattle.pull_admit.specs.declared.decision.DenyCause.TheVariants.{NotAReference, Refused}
use Rattle.pod_reviews.specs.declared.images.ReviewImage.{ReviewImage}

-- ---- a pull that is complete

-- a pull that did not run out of memory is complete
performed : {V : Type 0} {H : V → Type 0} (t : PullTerms V H) (image : Reference) {old new : Link} {k l : Kept} (r : Result VerifiedImage PullRefusal) → is_wanting r ≡ false → Meets is_memory (pull_of t image) old new k l r → Performs (pull_of t image) old new k l r
performed t image (Ok v) is met = met.outcome
performed t image {old} {new} {k} {l} (Err e) is met = rw is at met.outcome

seen : {V : Type 0} {H : V → Type 0} (t : PullTerms V H) (image : Reference) (k l : Kept) (m n : ℕ) (c : List Exchange) (r : Result VerifiedImage PullRefusal) → Runs (pull_of t image) k m c n l r
    → Seen (Sound k t.context t.policy_context image t.auth t.accepted) m c n r
seen t image k l m n c r run = (verified_seen k t.context t.policy_context image t.auth t.accepted).seen l m n c r run

-- the decision that a complete pull leads to
decided_by : {V : Type 0} {H : V → Type 0} (known : Option Answering) (place : ℕ) (t : PullTerms V H) (x : ReviewImage) (image : Reference) (k l : Kept) (m n : ℕ) (c : List Exchange) (r : Result VerifiedImage PullRefusal)
    → reference_of x.image ≡ Ok image → is_wanting r ≡ false → Runs (pull_of t image) k m c n l r → RanBy known place (pull_of t image) (snapshot k m) c (snapshot l n) r
    → DecidedBy known place t x (snapshot k m) c (snapshot l n) (decision_of r)
decided_by known place t x image k l m n c (Ok v) parses whole run ran =
    let sound = seen t image k l m n c (Ok v) run in
    record { image = image; parses = parses; run = ran; chain = sound.chain; backed = sound.backed; confined = confined_run t image k l m n c (Ok v) (no_mirror x.image image parses) whole run }
decided_by known place t x image k l m n c (Err e) parses whole run ran =
    record { image = image; parses = parses; run = ran; cause = (pull_causes t.policy_context t.context image t.auth t.accepted).shows k l m n c (Err e) run; memory = whole; confined = confined_run t image k l m n c (Err e) (no_mirror x.image image parses) whole run }

fault_of : (old new : Link) (r : Result VerifiedImage PullRefusal) → FaultCounted client_refusal old new r → CountsFault old new (decision_of r)
fault_of old new (Ok v) counted = λ is. absurd (cc is)
fault_of old new (Err e) counted = counted

memory_of : (r : Result VerifiedImage PullRefusal) → is_wanting r ≡ false → IfErr r (λ e. OnSkipped HoldsNoMemoryNorSink e) → HoldsNoMemory (decision_of r)
memory_of (Ok v) whole none = tt
memory_of (Err e) whole none = (whole, none)

not_memory : (e : PullRefusal) → is_memory e ≡ false → e ≡ WantOfMemory → ⊥
not_memory e whole is = cc (sym whole ∙ ap is_memory is)

allowed_of : (r : Result VerifiedImage PullRefusal) → is_wanting r ≡ false → OkOrMemory r → IsAllowed (decision_of r)
allowed_of (Ok v) whole done = tt
allowed_of (Err e) whole done = absurd (not_memory e whole done)

-- ---- a shelf

-- a shelf responds as before after any exchanges
pub answers_still : (shelf : Shelf) (old new : Link) (c : List Exchange) → Extends old new c → AnswersFrom shelf old → AnswersFrom shelf new
unfolding answering
answers_still shelf old new c added from = record {
  answers = added.stays.steady (answering shelf) from.answers;
  before = from.before ++ c;
  told = added.told from.before from.told;
  faults = rw (added.stays.quiet (answering shelf) from.answers (λ place. refl)) from.faults;
}

-- the reference that a text parses as is one
same_image : (r : Result Reference ParseError) (a b : Reference) → r ≡ Ok a → r ≡ Ok b → b ≡ a
same_image r a b one other = cc (sym one ∙ other)

-- ---- one image

-- the decision about the image of a reference, from what its pull guarantees
pub decided : {V : Type 0} {H : V → Type 0} (t : PullTerms V H) (x : ReviewImage) (image : Reference) {old new : Link} {k l : Kept} (r : Result VerifiedImage PullRefusal)
    → reference_of x.image ≡ Ok image → is_wanting r ≡ false
    → Meets is_memory (pull_of t image) old new k l r → FaultCounted client_refusal old new r → IfErr r (λ e. OnSkipped HoldsNoMemoryNorSink e)
    → ((shelf : Shelf) → AnswersFrom shelf old → IsSettled t.context.settings image t.auth shelf k → WideShelf t.policy_context t.context.settings image t.auth t.accepted shelf → OkOrMemory r)
    → Decided t x old new k l (decision_of r)
decided t x image {old} {new} {k} {l} r parses whole met counted none complete =
    let p = performed t image r whole met in record {
      conversation = p.conversation;
      told = p.told;
      decided = decided_by None 0 t x image k l old.faults new.faults p.conversation r parses whole p.runs p.runs;
      decided_by = λ a before by telling. decided_by (Some a) (length before) t x image k l old.faults new.faults p.conversation r parses whole p.runs (p.runs_by a before by telling);
      count = Runs-count (pull_of t image) k l old.faults new.faults p.conversation r p.runs;
      fault = fault_of old new r counted;
      memory = memory_of r whole none;
      completes = λ shelf registry from at settled other reads wide.
          let same = same_image (reference_of x.image) image other parses reads in
          allowed_of r whole (complete shelf from (settled image (at image parses)) (subst (λ i. WideShelf t.policy_context t.context.settings i t.auth t.accepted shelf) same wide));
    }

-- the part of one image is confined
one_part : {V : Type 0} {H : V → Type 0} (t : PullTerms V H) (x : ReviewImage) (image : Reference) (k l : Kept) (c : List Exchange) → reference_of x.image ≡ Ok image
    → Within (pulling k.0 t.context image (Some t.auth)) t.context.settings l.0 c → EachConfined t (x ∷ []) k c l
one_part t x image k l c parses inside = inr (c, [], l, sym (append-nil c), subst (λ r. ConfinedFor t r k c l) (sym parses) inside, (refl, refl))

pub keeps : {V : Type 0} {H : V → Type 0} (t : PullTerms V H) (x : ReviewImage) (image : Reference) {old new : Link} {k l : Kept} → reference_of x.image ≡ Ok image
    → Told (λ c. Within (pulling k.0 t.context image (Some t.auth)) t.context.settings l.0 c) old new
    → ((shelf : Shelf) → AnswersFrom shelf old → IsSettled t.context.settings image t.auth shelf k → StaysSettled t.context.settings (resolved_registry image) t.auth shelf k l)
    → Keeps t x old new k l
keeps t x image {old} {new} {k} {l} parses inside stays = record {
  confined = record { conversation = inside.conversation; told = inside.told; holds = one_part t x image k l inside.conversation parses inside.holds };
  settled = λ shelf registry from at settled. (
    answers_still shelf old new inside.conversation inside.told from,
    λ other other_at. stays shelf from (settled image (at image parses)) other (other_at ∙ sym (at image parses)) (settled other other_at),
  );
}

-- nothing was done
pub keeps_still : {V : Type 0} {H : V → Type 0} (t : PullTerms V H) (x : ReviewImage) (link : Link) (k : Kept) → Keeps t x link link k k
keeps_still t x link k = record {
  confined = record { conversation = []; told = Extends-none link; holds = inl (refl, refl) };
  settled = λ shelf registry from at settled. (from, settled);
}

no_reference : (r : Result Reference ParseError) (image : Reference) → IsErr r → r ≡ Ok image → ⊥
no_reference (Ok a) image none is = absurd (cc none)
no_reference (Err e) image none is = cc is

-- the text is not a reference
pub decided_unread : {V : Type 0} {H : V → Type 0} (t : PullTerms V H) (x : ReviewImage) (link : Link) (k : Kept) → IsErr (reference_of x.image) → Decided t x link link k k (Deny (NotAReference x.image))
decided_unread t x link k none = record {
  conversation = [];
  told = Extends-none link;
  decided = (refl, none, (refl, refl));
  decided_by = λ a before by telling. (refl, none, (refl, refl));
  count = omega arith;
  fault = λ is. absurd (cc is);
  memory = tt;
  completes = λ shelf registry from at settled image reads wide. absurd (no_reference (reference_of x.image) image none reads);
}

-- ---- equal pulls

-- a run over a transport that is known to respond in some way is a run
runs : (known : Option Answering) (place : ℕ) (p : Whole VerifiedImage) (start end : Snapshot) (c : List Exchange) (r : Result VerifiedImage PullRefusal) → RanBy known place p start c end r → Runs p start.kept start.faults c end.faults end.kept r
runs None place p start end c r h = h
runs (Some a) place p start end c r h = RunsBy-runs a place p start.kept end.kept start.faults end.faults c r h

-- terms with equal pulls lead to the same decisions
decided_as : {V W : Type 0} {H : V → Type 0} {I : W → Type 0} (known : Option Answering) (place : ℕ) (t : PullTerms V H) (u : PullTerms W I) (x : ReviewImage) (start end : Snapshot) (c : List Exchange) (d : Decision)
    → ((image : Reference) → pull_of t image ≡ pull_of u image) → DecidedBy known place t x start c end d → DecidedBy known place u x start c end d
decided_as known place t u x start end c (Allow v) same h =
    let ran = subst (λ (p : Whole VerifiedImage). RanBy known place p start c end (Ok v)) (same h.image) h.run in
    decided_by known place u x h.image start.kept end.kept start.faults end.faults c (Ok v) h.parses refl (runs known place (pull_of u h.image) start end c (Ok v) ran) ran
decided_as known place t u x start end c (Deny (NotAReference text)) same h = h
decided_as known place t u x start end c (Deny (Refused e)) same h =
    let ran = subst (λ (p : Whole VerifiedImage). RanBy known place p start c end (Err e)) (same h.image) h.run in
    decided_by known place u x h.image start.kept end.kept start.faults end.faults c (Err e) h.parses h.memory (runs known place (pull_of u h.image) start end c (Err e) ran) ran

pub reviewed_as : {V W : Type 0} {H : V → Type 0} {I : W → Type 0} (known : Option Answering) (place : ℕ) (t : PullTerms V H) (u : PullTerms W I) (xs : List ReviewImage) (ds : List Decision) (start end : Snapshot) (c : List Exchange)
    → ((image : Reference) → pull_of t image ≡ pull_of u image) → Reviewed known place t xs start c end ds → Reviewed known place u xs start c end ds
reviewed_as known place t u [] [] start end c same h = h
reviewed_as known place t u [] (d ∷ ds) start end c same h = absurd h
reviewed_as known place t u (x ∷ xs) [] start end c same h = absurd h
reviewed_as known place t u (x ∷ xs) (d ∷ ds) start end c same h =
    (h.0, h.1, h.2, h.3, decided_as known place t u x start h.2 h.0 d same h.4, reviewed_as known (place + length h.0) t u xs ds h.2 end h.1 same h.5)

-- there is one decision for each image
pub one_each : {V : Type 0} {H : V → Type 0} (known : Option Answering) (place : ℕ) (t : PullTerms V H) (xs : List ReviewImage) (ds : List Decision) (start end : Snapshot) (c : List Exchange) → Reviewed known place t xs start c end ds → length ds ≡ length xs
one_each known place t [] [] start end c h = refl
one_each known place t [] (d ∷ ds) start end c h = absurd h
one_each known place t (x ∷ xs) [] start end c h = absurd h
one_each known place t (x ∷ xs) (d ∷ ds) start end c h = ap suc (one_each known (place + length h.0) t xs ds h.2 end h.1 h.5)

-- ---- results

-- if there is a decision, it is that of a pull that did not run out of memory
pub decided_ok : {E V : Type 0} {H : V → Type 0} (t : PullTerms V H) (image : Reference) {old new : Link} {k l : Kept} (r : Result Decision E) (o : Result VerifiedImage PullRefusal) → IfOk r (λ d. d ≡ decision_of o) → OnOk r (is_wanting o ≡ false)
    → (is_wanting o ≡ false → (x : ReviewImage) → reference_of x.image ≡ Ok image → Decided t x old new k l (decision_of o))
    → IfOk r (λ d. (x : ReviewImage) → reference_of x.image ≡ Ok image → Decided t x old new k l d)
decided_ok t image {old} {new} {k} {l} (Ok d) o is whole f = λ x parses. subst (Decided t x old new k l) (sym is) (f whole x parses)
decided_ok t image (Err e) o is whole f = tt

-- if there is a decision about a string that is not a reference, it says so
pub unread_ok : {E V : Type 0} {H : V → Type 0} (t : PullTerms V H) (x : ReviewImage) (link : Link) (k : Kept) (r : Result Decision E) → IfOk r (λ d. d ≡ Deny (NotAReference x.image)) → IsErr (reference_of x.image)
    → IfOk r (λ d. Decided t x link link k k d)
unread_ok t x link k (Ok d) is none = subst (Decided t x link link k k) (sym is) (decided_unread t x link k none)
unread_ok t x link k (Err e) is none = tt

-- a string that does not parse
pub unparsed : (b : Bool) (r : Result Reference ParseError) → b ≡ is_ok r → b ≡ false → IsErr r
unparsed b (Ok a) is none = absurd (cc (sym is ∙ none))
unparsed b (Err e) is none = refl
