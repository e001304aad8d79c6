-- The events of a value write its text.
use Rattle.std.proofs.Common.{◌≡◌, ℕ, List, [], Option, Some, None, Result, Ok, Err, refl, sym, ap, subst, ◌∙◌, inl, inr, arith}
use Rattle.std.specs.Result.{IsErrAnd}
use Rattle.serde_json.specs.Data.{Data}
use Rattle.byte_streams.specs.SinkState.{SinkState, Adds, AddsPrefix}
use Rattle.json_events.specs.declared.error.CanonError.{CanonError}
use Rattle.json_events.specs.declared.error.CanonError.TheVariants.{Float, IntegerOutOfRange, DuplicateKey, RawFragment, NotWellNested, Unreadable, SinkFault, WantOfMemory}
use Rattle.json_events.specs.Canonical.{Canonical}
use Rattle.json_events.specs.Drafts.{Stage, run, fresh}
use Rattle.json_canon.specs.Feeding.{Fed}
use Rattle.json_canon.specs.Outcomes.{GivesText, PutsText, WritesText, RefusesWriting, RefusesValue}
use Rattle.json_events.specs.Refused.{refused}
use Rattle.json_events.specs.Spelling.{spelled}
use Rattle.json_events.specs.Values.{IsValue}
use Rattle.json_events.proofs.ValueTexts.{new_comes}
use Rattle.json_canon.proofs.Refusals.{refuses}

clash : (o : Option CanonError) (e : CanonError) → o ≡ None → o ≡ Some e → ⊥
clash o e p q = let both : None ≡ Some e = sym p ∙ q in cc

pub fed_writes : (d : Data) (r : Result (Unit {0}) CanonError) (old new : Stage) (before after : SinkState) → refused d ≡ None → IsValue d → old ≡ fresh → Fed (spelled d) r old new before after → WritesText r d before after
fed_writes d (Ok u) old new before after plain value is fed =
    let came = new_comes d plain value in
    let out = ap (λ s. (run (spelled d) s).out) is ∙ ap (λ r. r.out) came.leaves in
    record { text = came.text; canonical = came.canonical; whole = subst (λ o. Adds o before after) out fed.0.added }
fed_writes d (Err e) old new before after plain value is (inl fed) =
    let came = new_comes d plain value in
    absurd (clash new.refusal e (ap (λ s. s.refusal) fed.0.stage ∙ ap (λ s. (run (spelled d) s).stage.refusal) is ∙ ap (λ r. r.stage.refusal) came.leaves) fed.1)
fed_writes d (Err e) old new before after plain value is (inr (inl faulted)) =
    let came = new_comes d plain value in
    let out = ap (λ s. (run (spelled d) s).out) is ∙ ap (λ r. r.out) came.leaves in
    subst (λ c. RefusesWriting c d before after) (sym faulted.is) (record { text = came.text; canonical = came.canonical; front = subst (λ o. AddsPrefix o before after) out faulted.front }, faulted.rose)
fed_writes d (Err e) old new before after plain value is (inr (inr wanted)) =
    let came = new_comes d plain value in
    let out = ap (λ s. (run (spelled d) s).out) is ∙ ap (λ r. r.out) came.leaves in
    subst (λ c. RefusesWriting c d before after) (sym wanted.is) (inr (record { text = came.text; canonical = came.canonical; front = subst (λ o. AddsPrefix o before after) out wanted.front }))

-- a sink that never fails
pub plain_refusal : (e : CanonError) (d : Data) (before after : SinkState) → before.faults ≡ 0 → after.faults ≡ 0 → RefusesWriting e d before after → RefusesValue e d
plain_refusal Float d before after p q r = r.0
plain_refusal IntegerOutOfRange d before after p q r = r.0
plain_refusal DuplicateKey d before after p q r = absurd r
plain_refusal RawFragment d before after p q r = absurd r
plain_refusal NotWellNested d before after p q r = absurd r
plain_refusal Unreadable d before after p q r = absurd r
plain_refusal SinkFault d before after p q r = let rose = r.1 in absurd (omega (arith, rose))
plain_refusal WantOfMemory d before after p q r = tt

-- the output of a sink that was empty
pub put_into_none : (d : Data) (before after : SinkState) (t : List ℕ) → PutsText d before after → before.taken ≡ Some [] → after.taken ≡ Some t → Canonical d t
put_into_none d before after t put none all =
    let both : Some put.text ≡ Some t = sym (put.whole.took [] none) ∙ all in
    let same : put.text ≡ t = cc in
    subst (Canonical d) same put.canonical

nothing_put : (e : CanonError) (d : Data) (sink : SinkState) → RefusesValue e d → RefusesWriting e d sink sink
nothing_put Float d sink r = (r, refl)
nothing_put IntegerOutOfRange d sink r = (r, refl)
nothing_put DuplicateKey d sink r = absurd r
nothing_put RawFragment d sink r = absurd r
nothing_put NotWellNested d sink r = absurd r
nothing_put Unreadable d sink r = absurd r
nothing_put SinkFault d sink r = absurd r
nothing_put WantOfMemory d sink r = inl refl

-- a number was refused before anything was written
pub refused_first : (e : CanonError) (d : Data) (sink : SinkState) → refused d ≡ Some e → RefusesWriting e d sink sink
refused_first e d sink is = nothing_put e d sink (refuses e d is)

pub handed_text : (d : Data) (r : Result (List ℕ) CanonError) (e : CanonError) → IsErrAnd r (λ x. x ≡ e) → RefusesValue e d → GivesText r d
handed_text d (Ok t) e is why = absurd is
handed_text d (Err c) e is why = subst (λ x. RefusesValue x d) (sym is) why
