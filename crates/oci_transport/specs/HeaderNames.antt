-- The names of headers: the text of each public constant.
use Rattle.std.specs.Prelude.{◌≡◌, refl}
use Rattle.oci_transport.specs.Headers.{digest_header}
use Rattle.oci_transport.specs.declared.headers.TheConstants.{DIGEST_HEADER}

pub digest_header_is : DIGEST_HEADER.now ≡ digest_header
digest_header_is = refl
