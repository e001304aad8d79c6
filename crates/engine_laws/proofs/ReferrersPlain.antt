-- Steps of a call for referrers that make no request: none of their refusals is about a header or a sink.
use Rattle.std.proofs.Common.{ℕ, Bool, true, false, List, Option, Some, None, Result, Ok, Err}
use Rattle.std.specs.Prelude.{if◌then◌else◌}
use Rattle.url.specs.Parts.{Parts}
use Rattle.oci_transport.specs.Urls.{request_url}
use Rattle.oci_transport.specs.declared.message.Exchange.{Exchange}
use Rattle.json_values.specs.JsonText.{json_of}
use Rattle.oci_names.specs.declared.reference.Reference.{Reference}
use Rattle.oci_auth.specs.declared.auth_state.AuthState.{AuthState}
use Rattle.oci_manifests.specs.declared.document.OciManifest.{OciManifest}
use Rattle.oci_manifests.specs.declared.document.OciManifest.TheVariants.{Image, ImageIndex}
use Rattle.oci_manifests.specs.declared.index.OciImageIndex.{OciImageIndex}
use Rattle.engine_answers.specs.declared.answers.Got.{Got}
use Rattle.engine_terms.specs.declared.settings.Settings.{Settings}
use Rattle.engine_terms.specs.declared.error.OciDistributionError.{OciDistributionError}
use Rattle.engine_requests.specs.Addresses.{url_or, url_read}
use Rattle.engine_answers.specs.Answers.{accepted}
use Rattle.engine_answers.specs.Documents.{plain_of, tables_read}
use Rattle.engine_answers.specs.Referrers.{index_in, index_read, referrers_in, no_referrers, is_absent, tag_index, tagged_index}
use Rattle.engine_requests.specs.ReferrerLists.{digest_given, referrers_text, referrers_url, with_artifact_type}
use Rattle.engine_rows.specs.Held.{Entry}
use Rattle.request_laws.proofs.KeptTokens.{Keeps}
use Rattle.request_laws.proofs.PlainRefusals.{Plain, into_plain, accepted_plain, tables_plain}
use Rattle.request_laws.proofs.ShownTokens.{Ended, ended_plain}

read_plain : (text : List ℕ) → Plain (url_read text)
read_plain text = by_url (request_url text) where
  by_url : (o : Option Parts) → Plain (url_or text o)
  by_url (Some url) = tt
  by_url None = tt

pub url_plain : (s : Settings) (image : Reference) (digest : List ℕ) (kind : Option (List ℕ)) → Plain (referrers_url s image digest kind)
url_plain s image digest kind = into_plain (url_read (referrers_text s image digest)) (λ url. Ok (with_artifact_type kind url)) (read_plain (referrers_text s image digest)) (λ url. tt)

pub digest_plain : (o : Option (List ℕ)) → Plain (digest_given o)
digest_plain None = tt
digest_plain (Some digest) = tt

one_plain : (body : List ℕ) (document : OciManifest) → Plain (index_in body document)
one_plain body (ImageIndex index) = tt
one_plain body (Image manifest) = tt

index_plain : (body : List ℕ) → Plain (index_read body)
index_plain body = into_plain (tables_read body (plain_of (json_of body))) (index_in body) (tables_plain body) (one_plain body)

pub list_plain : (got : Got) → Plain (referrers_in got)
list_plain got = into_plain (accepted 200 got.url got.answer) (λ answer. index_read answer.body) (accepted_plain got.url got.answer) (λ answer. index_plain answer.body)

tag_plain : (digest : List ℕ) (kind : Option (List ℕ)) (document : OciManifest) → Plain (tag_index digest kind document)
tag_plain digest kind (ImageIndex index) = tt
tag_plain digest kind (Image manifest) = tt

-- the client state keeps its invariant, also if the tag does not exist
pub tagged_ended : (x : Entry) (s : Settings) (types : List ℕ) (digest : List ℕ) (kind : Option (List ℕ)) (l : AuthState) (c : List Exchange) (r : Result (OciManifest × List ℕ) OciDistributionError) → Keeps x l c → Ended x s types l c r → Ended x s types l c (tagged_index digest kind r)
tagged_ended x s types digest kind l c (Ok found) keeps h = ended_plain x s types l c (tag_index digest kind found.0) keeps (tag_plain digest kind found.0)
tagged_ended x s types digest kind l c (Err e) keeps h = by_test (is_absent e) where
  by_test : (b : Bool) → Ended x s types {A = OciImageIndex} l c (if b then Ok no_referrers else Err e)
  by_test true = keeps
  by_test false = h
