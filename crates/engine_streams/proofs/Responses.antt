-- The code returns what the rows return.
use Rattle.std.proofs.Common.{◌≡◌, List, ℕ, Option, Some, Result, Ok, Err}
use Rattle.std.specs.Result.{IsErrAnd}
use Rattle.std.proofs.lemmas.Result.{err_from_is_err_and}
use Rattle.oci_transport.specs.Link.{Link}
use Rattle.oci_names.specs.declared.reference.Reference.{Reference}
use Rattle.oci_auth.specs.declared.auth_state.AuthState.{AuthState}
use Rattle.oci_protocol.specs.Runs.{Meets}
use Rattle.oci_protocol.proofs.Laws.{Meets-refused}
use Rattle.engine_terms.specs.Contexts.{Context}
use Rattle.engine_terms.specs.Error.{is_memory}
use Rattle.engine_requests.specs.Sources.{Layer}
use Rattle.engine_terms.specs.declared.error.OciDistributionError.{OciDistributionError}
use Rattle.engine_rows.specs.Rows.{Row}
use Rattle.oci_protocol.proofs.Exits.{and_then, done}
use Rattle.engine_streams.specs.Blobs.{opened, by_digests, blob_stream_partial, opening_in, response_of, response_in, IsLeft}
use Rattle.engine_streams.specs.Streams.{opening_of}
use Rattle.engine_streams.specs.declared.blobs.BlobResponse.{BlobResponse}
use Rattle.engine_streams.specs.declared.head.Opening.{Opening}
use Rattle.engine_streams.specs.declared.range.ByteRange.{ByteRange}
use Rattle.engine_streams.specs.declared.stream.SizedStream.{SizedStream}

pub stream_on : {p : Row Opening} {old new : Link} {k l : AuthState} (e : OciDistributionError) (r : Result SizedStream OciDistributionError) → Meets is_memory p old new k l (Err e) → IsErrAnd r (λ x. x ≡ e) → Meets is_memory p old new k l (opening_in r)
stream_on e r met is = let at = err_from_is_err_and r is in rw (at.1, at.2) met

pub stream_here : {p : Row Opening} {old new : Link} {k l : AuthState} (o : Opening) (s : SizedStream) → Meets is_memory p old new k l (Ok o) → opening_of s ≡ o → Meets is_memory p old new k l (opening_in (Ok s))
stream_here o s met is = rw is met

pub left_as : {range : Option ByteRange} {digest : List ℕ} {old new : Link} (o p : Opening) → p ≡ o → IsLeft range digest o old new → IsLeft range digest p old new
left_as o p is left = rw is left

pub partial_on : (s : Context) (image : Reference) (layer : Layer) (range : ByteRange) {old new : Link} {k l : AuthState} (e : OciDistributionError) (r : Result BlobResponse OciDistributionError) → Meets is_memory (opened s image layer (Some range)) old new k l (Err e) → IsErrAnd r (λ x. x ≡ e) → Meets is_memory (blob_stream_partial s image layer range) old new k l (response_in r)
unfolding blob_stream_partial
partial_on s image layer range e r met is = let at = err_from_is_err_and r is in rw (at.1, at.2) (Meets-refused _ met)

pub partial_here : (s : Context) (image : Reference) (layer : Layer) (range : ByteRange) {old new : Link} {k l : AuthState} (o : Opening) (r : BlobResponse) → Meets is_memory (opened s image layer (Some range)) old new k l (Ok o) → response_of r ≡ by_digests o o.digests → Meets is_memory (blob_stream_partial s image layer range) old new k l (response_in (Ok r))
unfolding blob_stream_partial
partial_here s image layer range o r met is = rw is (and_then _ met done)
