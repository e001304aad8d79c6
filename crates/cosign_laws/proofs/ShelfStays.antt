-- Whatever the result of a pull over a shelf, the client keeps what it may keep, and caches only what the shelf returns.
use Rattle.std.proofs.Common.{◌≡◌, ℕ, List, None, Result, Err, refl, sym, ◌∙◌, subst}
use Rattle.oci_names.specs.Words.{Path}
use Rattle.oci_names.specs.Reference.{whole_text, repository_of, resolved_registry, reads_back}
use Rattle.oci_names.specs.declared.reference.Reference.{Reference}
use Rattle.oci_auth.specs.declared.auth.RegistryAuth.{RegistryAuth}
use Rattle.oci_auth.specs.declared.auth_state.AuthState.{AuthState}
use Rattle.oci_transport.specs.declared.message.Request.{Request}
use Rattle.oci_transport.specs.declared.message.Answer.{Answer}
use Rattle.oci_protocol.specs.Proto.{Proto, Done}
use Rattle.oci_link.specs.Table.{answer}
use Rattle.oci_link.specs.declared.shelf.Shelf.{Shelf}
use Rattle.engine_terms.specs.Contexts.{Context}
use Rattle.engine_answers.specs.Index.{entry_reference}
use Rattle.engine_requests.specs.Requests.{manifest_types}
use Rattle.engine_requests.specs.Sources.{Layer}
use Rattle.engine_terms.specs.declared.error.OciDistributionError.{OciDistributionError}
use Rattle.engine_terms.specs.declared.error.OciDistributionError.TheVariants as refusal
use Rattle.engine_terms.specs.declared.settings.Settings.{Settings}
use Rattle.engine_rows.specs.Rows.{Row as Engine}
use Rattle.registry_calls.specs.declared.error_context.Called.{Called}
use Rattle.registry_calls.specs.declared.error_context.Called.TheVariants.{FetchManifest, Pull, PullManifest}
use Rattle.registry_calls.specs.ErrorContext.{with_error_context, refusal as call_refusal}
use Rattle.registry_calls.specs.Clients.{Kept, Plain}
use Rattle.registry_calls.specs.Calls.{in_words, digest_made, manifest_made, image_made, document_made, blob_made, referrers_made, document_call, blob_call}
use Rattle.shelf_laws.specs.IsHosted.{IsHosted, IsAt, Settled}
use Rattle.shelf_laws.proofs.References.{spelled, resolved_domain}
use Rattle.cosign_rows.specs.References.{tag_reference, digest_reference}
use Rattle.cosign_laws.specs.Settled.{AreFromShelf}
use Rattle.cosign_laws.specs.Shelves.{IsAsked}
use Rattle.cosign_laws.proofs.KeptAnswers.{lifted_stays, digest_settled, manifest_settled, image_settled, referrers_settled}
use Rattle.shelf_laws.proofs.LostResponses.{EndsLost, Resilient, resilient_done, resilient_bind, resilient_next, Stays, Stays-done, Stays-bind}
use Rattle.cosign_laws.proofs.PullRows.{HoldsOfCalls, image_in, tag_in, digest_in, referrer_in, entry_in_it}
use Rattle.shelf_laws.proofs.ShelfRows.{Allows, IsIn, IsFault, given_sure, raw_sure, digest_sure, manifest_sure, blob_sure, pull_sure, referrers_sure}

-- out of memory is passed on, and a fault in the call's own words
words_sure : {J : AuthState → Type 0} {table : Request → Answer} {A : Type 0} {p : Engine A} (called : Called) (r : Reference) → Resilient J table IsFault p → Resilient J table (λ e. Unit {0}) (in_words called r p)
unfolding in_words
words_sure {J} {table} {A} called r h = resilient_bind (λ x. Done (with_error_context called (whole_text r) x)) h (λ x. resilient_done _) lost where
  lost : (e : OciDistributionError) → IsFault e → EndsLost {K = AuthState} (λ e. Unit {0}) (Done (with_error_context called (whole_text r) {A = A} (Err e)))
  lost e is = subst (λ (x : OciDistributionError). EndsLost {K = AuthState} (λ e. Unit {0}) (Done (with_error_context called (whole_text r) {A = A} (Err x)))) (sym is)
      (record { error = call_refusal called (whole_text r) refusal.TransportFault; is = refl; kind = tt })

-- ---- the references of a pull from the shelf

module _ {s : Settings} {image : Reference} {a : RegistryAuth} {shelf : Shelf} (asked : IsAsked s image a shelf) where
  at_shelf : {r : Reference} → IsIn (resolved_registry image) (repository_of image) r → IsAt (resolved_registry image) shelf r
  at_shelf in_it = record { registry_is = in_it.registry_is; repository_is = in_it.repository_is ∙ asked.repository_is; no_mirror = in_it.no_mirror }

  pub home_of : IsHosted s (resolved_registry image) shelf
  home_of = let spelling = spelled image asked.reads_back_is in record { written = asked.written; domain = resolved_domain image spelling; path = subst Path asked.repository_is spelling.path; agent = asked.agent; lead = asked.lead }

  pub image_at : IsAt (resolved_registry image) shelf image
  image_at = at_shelf (image_in image asked.reads_back_is)

  pub tag_at : (d : List ℕ) → IsAt (resolved_registry image) shelf (tag_reference image d)
  tag_at d = at_shelf (tag_in image asked.reads_back_is d)

  pub digest_at : (d : List ℕ) → IsAt (resolved_registry image) shelf (digest_reference image d)
  digest_at d = at_shelf (digest_in image asked.reads_back_is d)

  pub referrer_at : (d x : List ℕ) → IsAt (resolved_registry image) shelf (digest_reference (digest_reference image d) x)
  referrer_at d x = at_shelf (referrer_in image asked.reads_back_is d x)

  pub entry_at : (d x : List ℕ) → IsAt (resolved_registry image) shelf (entry_reference (digest_reference image d) x)
  entry_at d x = at_shelf (entry_in_it image asked.reads_back_is d x)

-- ---- the calls

module _ (s : Settings) (registry repository : List ℕ) (a : RegistryAuth) (shelf : Shelf) (J : AuthState → Type 0) (allows : Allows registry repository a J) (settles : (k : AuthState) → J k → Settled registry repository a k) (moment : ℕ) where
  abbrev I : Kept → Type 0
  I k = J k.0 × AreFromShelf s registry a shelf k.1

  abbrev ctx : Context
  ctx = record { settings = s; moment = moment }

  abbrev Sure : {A : Type 0} → Plain A → Type 0
  Sure p = Resilient J (answer shelf) (λ e. Unit {0}) p

  module _ (r : Reference) (in_it : IsIn registry repository r) where
    digest_made_sure : Sure (digest_made ctx r a)
    unfolding digest_made
    digest_made_sure = words_sure FetchManifest r (digest_sure s shelf registry repository a J allows moment r in_it)

    manifest_made_sure : Sure (manifest_made ctx r a)
    unfolding manifest_made
    manifest_made_sure = words_sure PullManifest r (manifest_sure s shelf registry repository a J allows moment r in_it)

    image_made_sure : (types : List (List ℕ)) → Sure (image_made ctx r a types)
    unfolding image_made
    image_made_sure types = words_sure Pull r (pull_sure s shelf registry repository a J allows moment r in_it types)

    referrers_made_sure : Sure (referrers_made ctx r a None)
    unfolding referrers_made
    referrers_made_sure = resilient_next _ (words_sure FetchManifest r (given_sure s shelf registry repository a J allows moment r in_it)) (λ u.
        words_sure PullManifest r (referrers_sure s shelf registry repository a J allows moment r in_it None))

    document_stays : Stays I (answer shelf) (document_call ctx r a manifest_types)
    unfolding document_call document_made
    document_stays = lifted_stays s registry a shelf repository J settles (words_sure Pull r (raw_sure s shelf registry repository a J allows moment r in_it manifest_types))

    blob_stays : (layer : Layer) → Stays I (answer shelf) (blob_call ctx r layer)
    unfolding blob_call blob_made
    blob_stays layer = lifted_stays s registry a shelf repository J settles (words_sure Pull r (blob_sure s shelf registry repository a J allows moment r in_it layer))

  pub calls_stay : HoldsOfCalls (λ A p. Stays I (answer shelf) p) ctx a registry repository
  calls_stay = record {
    done = λ A x. Stays-done x;
    parts = λ A B p f h next. Stays-bind f h next;
    digest = λ r in_it. digest_settled s registry a shelf repository J settles r in_it moment (digest_made_sure r in_it);
    manifest = λ r in_it. manifest_settled s registry a shelf repository J settles r in_it moment (manifest_made_sure r in_it);
    image = λ r in_it types. image_settled s registry a shelf repository J settles r in_it moment types (image_made_sure r in_it types);
    referrers = λ r in_it. referrers_settled s registry a shelf repository J settles r in_it moment None (referrers_made_sure r in_it);
    document = document_stays;
    blob = blob_stays;
  }
