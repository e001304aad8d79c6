use Rattle.std.proofs.Common.{[], ◌∷◌, ◌++◌, sym, ap, ◌∙◌}
use Rattle.pod_reviews.specs.Places.{volume_from}
use Rattle.pod_reviews.proofs.places.push_volume.Goals as goal

pub returns-in_ok-push : goal.returns-in_ok-push
returns-in_ok-push c =
    c.in_ok-push.ensures.ok
    ∙ ap (λ image. c.args.images.now ++ image ∷ []) c.in_ok-placed.ensures
    ∙ ap (λ image. c.args.images.now ++ volume_from c.args.index image) (sym c.in-Some.is)
