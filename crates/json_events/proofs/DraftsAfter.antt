-- The draft that events leave, and the formatter's state after them.
use Rattle.std.proofs.Common.{◌≡◌, [], ◌∷◌, ◌++◌, refl, sym, ap, subst, ◌∙◌, append-nil, append_assoc}
use Rattle.json_events.specs.Canonical.{Canonical}
use Rattle.json_events.specs.Drafts.{run, fresh, step, at}
use Rattle.json_events.specs.Events.{finish}
use Rattle.json_events.specs.Formatters.{stage_of}
use Rattle.json_events.specs.Laws.{EventsWrite, WritesPrefix, HoldsFirst, HoldsNext}
use Rattle.json_events.specs.Spelling.{spelled}
use Rattle.json_events.specs.declared.spot.Spot.TheVariants.{Whole, Finished}
use Rattle.json_events.proofs.Unique.{unique}
use Rattle.json_events.proofs.ValueTexts.{new_comes, joins, one, run-append, with_text}

pub events_write : EventsWrite
events_write d value plain =
    let came = new_comes d plain value in
    let end = with_text came.text (at Whole fresh.draft) in
    let all = joins (spelled d) (finish ∷ []) fresh.draft end (at Finished end) came.text [] came.leaves (one finish end (at Finished end) [] refl) in
    (ap (λ r. r.stage.refusal) all, subst (Canonical d) (sym (ap (λ r. r.out) all ∙ append-nil came.text)) came.canonical)

pub holds_first : HoldsFirst
holds_first f new = record { stage = new; went = refl }

pub holds_next : HoldsNext
holds_next f g out events x r before after holds taken =
    let all = run-append events (x ∷ []) fresh in
    let there = holds.stage in (
      (step x (stage_of f)).out,
      record {
        stage = taken.stage ∙ ap (λ s. (step x s).stage) there ∙ sym (ap (λ q. q.stage) all);
        went = ap (λ o. o ++ (step x (stage_of f)).out) holds.went ∙ ap (λ s. (run events fresh).out ++ (step x s).out) there
            ∙ ap (λ o. (run events fresh).out ++ o) (sym (append-nil (step x (run events fresh).stage).out)) ∙ sym (ap (λ q. q.out) all);
      },
      taken.added,
      taken.answers,
    )

pub front_goes_out : WritesPrefix
front_goes_out xs ys v t so canonical =
    let written = events_write v so.value so.plain in
    let all = ys ++ finish ∷ [] in
    let same : t ≡ (run (spelled v ++ finish ∷ []) fresh).out = unique v t _ canonical written.1 in
    let parts : spelled v ++ finish ∷ [] ≡ xs ++ all = ap (λ l. l ++ finish ∷ []) (sym so.events) ∙ append_assoc xs ys (finish ∷ []) in
    ((run all (run xs fresh).stage).out, same ∙ ap (λ l. (run l fresh).out) parts ∙ ap (λ r. r.out) (run-append xs all fresh))
