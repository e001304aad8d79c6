-- The public constants.
use Rattle.std.proofs.Common.{◌≡◌, refl}
use Rattle.oci_engine.specs.declared.config.TheConstants.{DEFAULT_MAX_CONCURRENT_UPLOAD, DEFAULT_MAX_CONCURRENT_DOWNLOAD, DEFAULT_TOKEN_EXPIRATION_SECS}

pub uploads : DEFAULT_MAX_CONCURRENT_UPLOAD ≡ 16
uploads = refl

pub downloads : DEFAULT_MAX_CONCURRENT_DOWNLOAD ≡ 16
downloads = refl

pub expiration : DEFAULT_TOKEN_EXPIRATION_SECS ≡ 60
expiration = refl
