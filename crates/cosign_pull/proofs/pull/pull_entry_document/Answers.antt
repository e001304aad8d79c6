use Rattle.std.proofs.Common.{refl}
use Rattle.oci_names.specs.Reference.{whole_text}
use Rattle.cosign_rows.specs.Image.{with_image, entry_call}
use Rattle.cosign_rows.proofs.Exits.{wanting, said_of, with_stays}
use Rattle.cosign_pull.proofs.pull.pull_entry_document.Goals as goal

pub returns-in_err-types : goal.returns-in_err-types
unfolding entry_call
returns-in_err-types g c = λ s. wanting _ refl c.from_residual.ensures.1

pub returns-in_err-reference : goal.returns-in_err-reference
unfolding entry_call
returns-in_err-reference g c = λ s. wanting _ refl c.from_residual-in_err-reference.ensures.1

pub returns : goal.returns
unfolding entry_call
returns g c = λ s. said_of (with_image (whole_text c.args.source.now)) c.pull_manifest_raw-found.result (with_stays (whole_text c.args.source.now))
    (rw (c.as_slice.ensures, c.in_ok-types.ensures, c.in_ok-reference.ensures) at (c.pull_manifest_raw-found.ensures.run s)) c.with_image.ensures
