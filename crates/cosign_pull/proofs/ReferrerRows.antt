-- The referrers of a digest, one after another, appended to the given part.
use Rattle.std.proofs.Common.{◌≡◌, ◌<◌, ℕ, ◌+◌, List, [], None, Result, Ok, sym, subst, length, drop, get_or}
use Rattle.oci_transport.specs.Link.{Link}
use Rattle.oci_names.specs.declared.reference.Reference.{Reference}
use Rattle.oci_auth.specs.declared.auth.RegistryAuth.{RegistryAuth}
use Rattle.oci_manifests.specs.declared.index_entry.ImageIndexEntry.{ImageIndexEntry}
use Rattle.oci_protocol.specs.Proto.{Done, bind, ◌>>=◌}
use Rattle.engine_terms.specs.Contexts.{Context}
use Rattle.engine_terms.specs.declared.settings.Settings.{Settings}
use Rattle.registry_calls.specs.declared.error.SigstoreError.{SigstoreError}
use Rattle.registry_calls.specs.Error.{is_memory}
use Rattle.registry_calls.specs.Calls.{referrers_call}
use Rattle.registry_calls.specs.Clients.{Client, ClientMeets}
use Rattle.cosign_parts.specs.Trust.{Trust}
use Rattle.cosign_rows.specs.declared.found.Part.{Part}
use Rattle.cosign_rows.specs.Search.{listed_row, referrer_row, referrers_row, referrers_source}
use Rattle.cosign_rows.proofs.Descriptors.{at_next, alone}
use Rattle.cosign_rows.proofs.Exits.{done}
use Rattle.cosign_pull.specs.Gathered.{gathered, put_behind}
use Rattle.cosign_pull.proofs.GatheredParts.{bind_joined, gathered_both}

pub referrers_end : {t : Settings} (trust : Trust) (d : List ℕ) (s : Context) (source : Reference) (a : RegistryAuth) (xs : List ImageIndexEntry) (part : Part) {c : Client} {link : Link} → xs ≡ [] → ClientMeets is_memory t (gathered part (referrers_row trust d s source a xs)) c c link link (Ok part)
unfolding referrers_row bind
referrers_end {t} trust d s source a xs part {c} {link} none = rw none (subst (λ (p : Part). ClientMeets is_memory t (Done (Ok p)) c c link link (Ok part)) (sym (alone part)) done)

pub referrers_next : {t : Settings} (trust : Trust) (d : List ℕ) (s : Context) (source : Reference) (a : RegistryAuth) (xs : List ImageIndexEntry) (i : ℕ) (x : ImageIndexEntry) (part : Part) {c e : Client} {old new : Link} {r : Result Part SigstoreError} → i < length xs → x ≡ get_or xs i x
    → ClientMeets is_memory t (gathered part (referrer_row trust d s source a x.digest) >>= (λ more. gathered more (referrers_row trust d s source a (drop (i + 1) xs)))) c e old new r → ClientMeets is_memory t (gathered part (referrers_row trust d s source a (drop i xs))) c e old new r
unfolding referrers_row
referrers_next {t} trust d s source a xs i x part {c} {e} {old} {new} {r} lt is rest =
    rw (at_next xs i x lt is) (subst (λ p. ClientMeets is_memory t p c e old new r) (sym (gathered_both part (referrer_row trust d s source a x.digest) (referrers_row trust d s source a (drop (i + 1) xs)))) rest)

-- the listing, and what is then gathered from it
pub referrers_listed : {t : Settings} (trust : Trust) (d : List ℕ) (s : Context) (source : Reference) (a : RegistryAuth) (part : Part) {c e : Client} {old new : Link} {r : Result Part SigstoreError}
    → ClientMeets is_memory t (bind (referrers_call s source a None) (λ listed. gathered part (listed_row trust d s source a listed))) c e old new r → ClientMeets is_memory t (gathered part (referrers_source trust d s source a)) c e old new r
unfolding referrers_source
referrers_listed {t} trust d s source a part {c} {e} {old} {new} {r} made = subst (λ p. ClientMeets is_memory t p c e old new r) (sym (bind_joined (referrers_call s source a None) (listed_row trust d s source a) (λ r. Done (put_behind part r)))) made
