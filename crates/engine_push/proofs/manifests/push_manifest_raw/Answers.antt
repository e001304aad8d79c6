use Rattle.std.proofs.Common.{refl, sym, ◌∙◌}
use Rattle.oci_protocol.proofs.Exits.{refused, and_then, said}
use Rattle.engine_rows.proofs.Exits.{wanting}
use Rattle.push_rows.specs.Images.{push_manifest_raw}
use Rattle.engine_push.proofs.ManifestTree.{located_met, named_met, unnamed_met}
use Rattle.engine_push.proofs.manifests.push_manifest_raw.Goals as goal

pub returns-in_err-url : goal.returns-in_err-url
unfolding push_manifest_raw
returns-in_err-url g c = refused _ (said _ c.in_err-url.ensures) c.from_residual.ensures.1

pub returns-in_err-named : goal.returns-in_err-named
unfolding push_manifest_raw
returns-in_err-named g c = and_then _ (said _ c.in_ok-url.ensures) (wanting c.from_residual-in_err-named.ensures.1)

pub returns-in_err-media_type : goal.returns-in_err-media_type
unfolding push_manifest_raw
returns-in_err-media_type g c = and_then _ (said _ c.in_ok-url.ensures) (wanting c.from_residual-in_err-media_type.ensures.1)

pub same-body : goal.same-body
same-body g c = refl

pub returns-in-Ok : goal.returns-in-Ok
unfolding push_manifest_raw
returns-in-Ok g c = and_then _ (said _ c.in_ok-url.ensures) (located_met _ _ _ (rw c.in_ok-media_type.ensures at c.in-Ok.ensures.run))

pub returns-in_default : goal.returns-in_default
unfolding push_manifest_raw
returns-in_default g c = and_then _ (said _ c.in_ok-url.ensures) (unnamed_met _ _ _ (rw (c.in_ok-named.ensures, c.as_slice.ensures) at (sym c.named_for.ensures ∙ c.in_default.is)) (rw c.in_ok-media_type.ensures at c.in-Err.ensures.run))

pub returns : goal.returns
unfolding push_manifest_raw
returns g c = and_then _ (said _ c.in_ok-url.ensures) (named_met _ _ _ _ (rw (c.in_ok-named.ensures, c.as_slice.ensures) at (sym c.named_for.ensures ∙ c.in-Some.is)) (rw c.in_ok-media_type.ensures at c.in-Err.ensures.run))
