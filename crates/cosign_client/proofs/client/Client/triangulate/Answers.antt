use Rattle.std.proofs.Common.{refl, ap}
use Rattle.engine_terms.specs.Contexts.{within}
use Rattle.registry_cache.specs.Auths.{registry_auth}
use Rattle.registry_calls.specs.Direct.{reference_in}
use Rattle.cosign_client.specs.State.{client_state}
use Rattle.cosign_rows.specs.Triangulated.{triangulated}
use Rattle.cosign_laws.proofs.Confinement.{triangulated_confined}
use Rattle.cosign_rows.proofs.Exits.{and_then, refused, wanting, meets_wanting, shown_refusal, tag_made}
use Rattle.cosign_client.proofs.client.Client.triangulate.Goals as goal

pub returns-in_err-auth-clause-run : goal.returns-in_err-auth-clause-run
returns-in_err-auth-clause-run g c = meets_wanting _ refl (shown_refusal _ _ c.from_residual.ensures.1)

pub returns-in_err-digest-clause-run : goal.returns-in_err-digest-clause-run
unfolding triangulated
returns-in_err-digest-clause-run g c = ((refused _ (rw (c.reference.ensures.inner, c.in_ok-auth.ensures) at (c.in_err-digest.ensures.run (client_state c.args.self.now).settings)) (shown_refusal _ _ c.from_residual-in_err-digest.ensures.1)).made refl).1

pub returns-in_err-tag-clause-run : goal.returns-in_err-tag-clause-run
unfolding triangulated
returns-in_err-tag-clause-run g c = ((and_then _ (rw (c.reference.ensures.inner, c.in_ok-auth.ensures) at (c.in_ok-digest.ensures.run (client_state c.args.self.now).settings)) (wanting _ refl (shown_refusal _ _ c.from_residual-in_err-tag.ensures.1))).made refl).1

pub returns-clause-run : goal.returns-clause-run
returns-clause-run g c = ((tag_made (within (client_state c.args.self.now).settings c.args.moment) (reference_in c.args.image.now) (registry_auth c.args.auth.now) c.in_ok-digest.digest (reference_in c.in_ok-tag.tag) (rw (c.reference.ensures.inner, c.in_ok-auth.ensures) at (c.in_ok-digest.ensures.run (client_state c.args.self.now).settings)) (rw c.as_str.ensures at c.in_ok-tag.ensures)).made refl).1

pub returns-in_err-digest-clause-settings : goal.returns-in_err-digest-clause-settings
returns-in_err-digest-clause-settings g c = ((c.in_err-digest.ensures.run (client_state c.args.self.now).settings).made refl).0

pub returns-in_err-tag-clause-settings : goal.returns-in_err-tag-clause-settings
returns-in_err-tag-clause-settings g c = ((c.in_ok-digest.ensures.run (client_state c.args.self.now).settings).made refl).0

pub returns-clause-settings : goal.returns-clause-settings
returns-clause-settings g c = ((c.in_ok-digest.ensures.run (client_state c.args.self.now).settings).made refl).0

pub returns-in_err-auth-clause-confined : goal.returns-in_err-auth-clause-confined
returns-in_err-auth-clause-confined g c = triangulated_confined (within (client_state c.args.self.now).settings c.args.moment) (reference_in c.args.image.now) (registry_auth c.args.auth.now) _ c.args.image.now.direct (returns-in_err-auth-clause-run g c)

pub returns-in_err-digest-clause-confined : goal.returns-in_err-digest-clause-confined
returns-in_err-digest-clause-confined g c = triangulated_confined (within (client_state c.args.self.now).settings c.args.moment) (reference_in c.args.image.now) (registry_auth c.args.auth.now) _ c.args.image.now.direct (returns-in_err-digest-clause-run g c)

pub returns-in_err-tag-clause-confined : goal.returns-in_err-tag-clause-confined
returns-in_err-tag-clause-confined g c = triangulated_confined (within (client_state c.args.self.now).settings c.args.moment) (reference_in c.args.image.now) (registry_auth c.args.auth.now) _ c.args.image.now.direct (returns-in_err-tag-clause-run g c)

pub returns-clause-confined : goal.returns-clause-confined
returns-clause-confined g c = triangulated_confined (within (client_state c.args.self.now).settings c.args.moment) (reference_in c.args.image.now) (registry_auth c.args.auth.now) _ c.args.image.now.direct (returns-clause-run g c)
