-- Which calls for referrers are refused before a request is made.
use Rattle.std.proofs.Common.{◌≡◌, ℕ, List, Option, Some, None, IfSome, Result, Ok, Err, refl, sym, ap, subst}
use Rattle.url.specs.Parts.{Parts}
use Rattle.oci_transport.specs.Urls.{request_url}
use Rattle.oci_transport.specs.declared.message.Method.TheVariants.{Get}
use Rattle.oci_names.specs.Reference.{digest_of}
use Rattle.oci_names.specs.declared.reference.Reference.{Reference}
use Rattle.oci_auth.specs.declared.token_type.RegistryOperation.TheVariants.{Pull}
use Rattle.oci_protocol.specs.Proto.{Done, bind, unless_refused, ◌>>=◌}
use Rattle.oci_protocol.specs.Ends.{Ends}
use Rattle.engine_requests.specs.Addresses.{url_or, url_read}
use Rattle.engine_terms.specs.Contexts.{Context}
use Rattle.json_values.specs.Refusals.{◌>>=◌ as ◌into◌}
use Rattle.engine_requests.specs.ReferrerLists.{digest_given, referrers_text, referrers_url, with_artifact_type}
use Rattle.engine_requests.specs.Requests.{manifest_types}
use Rattle.engine_terms.specs.declared.error.OciDistributionError.{OciDistributionError}
use Rattle.engine_terms.specs.declared.error.OciDistributionError.TheVariants as refusal
use Rattle.engine_rows.specs.Rows.{Row, whole, prepared}
use Rattle.engine_rows.specs.Referrers.{referrers_asked, referrers_by, pull_referrers}
use Rattle.engine_rows.specs.Causes.{IsEarly, HasBadHeader}
use Rattle.request_laws.proofs.ExactRefusals.{Only, after_refusal, handed_on, early_on, prepared_bad}

-- the digest is present
with_digest : {B : Type 0} (Q : Result B OciDistributionError → Type 0) (f : List ℕ → Row B) (digest : List ℕ) (o : Option (List ℕ)) → o ≡ Some digest → Ends Q (f digest) → Ends Q (Done (digest_given o) >>= f)
unfolding bind
with_digest Q f digest o is h = subst (λ (o : Option (List ℕ)). Ends Q (unless_refused f (digest_given o))) (sym is) h

-- ---- a malformed URL

list_url : (s : Context) (image : Reference) (digest : List ℕ) (kind : Option (List ℕ)) → request_url (referrers_text s.settings image digest) ≡ None → Ends (Only (refusal.UrlParseError (referrers_text s.settings image digest))) (referrers_asked s image digest kind)
unfolding referrers_asked Ends bind
list_url s image digest kind none = after_refusal (refusal.UrlParseError (referrers_text s.settings image digest)) (λ url. prepared s image Pull Get url manifest_types >>= λ request. whole 10 request s.settings.max_body_bytes) (referrers_url s.settings image digest kind) (ap (λ (o : Option Parts). url_or (referrers_text s.settings image digest) o into (λ url. Ok (with_artifact_type kind url))) none)

pub referrers_no_url : (s : Context) (image : Reference) (kind : Option (List ℕ)) (digest : List ℕ) → digest_of image ≡ Some digest → request_url (referrers_text s.settings image digest) ≡ None → Ends (Only (refusal.UrlParseError (referrers_text s.settings image digest))) (pull_referrers s image kind)
unfolding pull_referrers
referrers_no_url s image kind digest is none =
    let e = refusal.UrlParseError (referrers_text s.settings image digest) in
    with_digest (Only e) (λ digest. referrers_asked s image digest kind >>= referrers_by s image digest kind) digest (digest_of image) is (handed_on e (referrers_asked s image digest kind) (referrers_by s image digest kind) (list_url s image digest kind none))

-- ---- an invalid header value

by_list : {B : Type 0} (text : List ℕ) (kind : Option (List ℕ)) (f : Parts → Row B) (o : Option Parts) → request_url text ≡ o → ((url : Parts) → Ends IsEarly (f url)) → Ends IsEarly (unless_refused f (url_or text o into (λ url. Ok (with_artifact_type kind url))))
unfolding Ends
by_list text kind f (Some url) is each = each (with_artifact_type kind url)
by_list text kind f None is each = is

list_bad : (s : Context) (image : Reference) (digest : List ℕ) (kind : Option (List ℕ)) → HasBadHeader s.settings manifest_types → Ends IsEarly (referrers_asked s image digest kind)
unfolding referrers_asked bind
list_bad s image digest kind bad = by_list (referrers_text s.settings image digest) kind (λ url. prepared s image Pull Get url manifest_types >>= λ request. whole 10 request s.settings.max_body_bytes) (request_url (referrers_text s.settings image digest)) refl (λ url. early_on (prepared s image Pull Get url manifest_types) (λ request. whole 10 request s.settings.max_body_bytes) (prepared_bad s image Pull Get url manifest_types bad))

pub referrers_bad : (s : Context) (image : Reference) (kind : Option (List ℕ)) (digest : List ℕ) → digest_of image ≡ Some digest → HasBadHeader s.settings manifest_types → Ends IsEarly (pull_referrers s image kind)
unfolding pull_referrers
referrers_bad s image kind digest is bad = with_digest IsEarly (λ digest. referrers_asked s image digest kind >>= referrers_by s image digest kind) digest (digest_of image) is (early_on (referrers_asked s image digest kind) (referrers_by s image digest kind) (list_bad s image digest kind bad))

-- P holds for the digest, if there is one
pub of_digest : (P : List ℕ → Type 0) (o : Option (List ℕ)) → ((digest : List ℕ) → o ≡ Some digest → P digest) → IfSome o P
of_digest P (Some digest) each = each digest refl
of_digest P None each = tt
