-- Defaults of the registry client and of the clients of Rekor and Fulcio, with their addresses.
use Rattle.std.specs.Prelude.{◌≡◌, false, Some, None, codes}
use Rattle.engine_terms.specs.declared.settings.ClientProtocol.TheVariants.{Https}
use Rattle.push_rows.specs.Uploads.{chunk_size}
use Rattle.oci_engine.specs.Clients.{default_config}
use Rattle.oci_engine.specs.declared.config.TheConstants as config
use Rattle.sig_services.specs.Configuration.{usual}
use Rattle.sig_services.specs.declared.client.TheConstants as authority

-- of `ClientConfig::default`: numbers are seconds for tokens and bytes for bodies
pub record ClientDefaultsAre : Type 0 where
  pub protocol : default_config.protocol ≡ Https
  pub use_monolithic_push : default_config.use_monolithic_push ≡ false
  pub platform_resolver : default_config.platform_resolver ≡ None
  pub max_concurrent_upload : default_config.max_concurrent_upload ≡ config.DEFAULT_MAX_CONCURRENT_UPLOAD
  pub uploads : config.DEFAULT_MAX_CONCURRENT_UPLOAD ≡ 16
  pub max_concurrent_download : default_config.max_concurrent_download ≡ config.DEFAULT_MAX_CONCURRENT_DOWNLOAD
  pub downloads : config.DEFAULT_MAX_CONCURRENT_DOWNLOAD ≡ 16
  pub default_token_expiration_secs : default_config.default_token_expiration_secs
      ≡ config.DEFAULT_TOKEN_EXPIRATION_SECS
  pub seconds : config.DEFAULT_TOKEN_EXPIRATION_SECS ≡ 60
  pub user_agent : default_config.user_agent ≡ codes "oci-client/0.18.0"
  pub max_body_bytes : default_config.max_body_bytes ≡ 4294967295

-- of a pushed blob: the most bytes of a chunk
pub record ChunksAre : Type 0 where
  pub chunk_size_is : chunk_size ≡ 4194304

-- of the public instances of Rekor and Fulcio
pub record AddressesAre : Type 0 where
  pub rekor : usual.base_path ≡ codes "https://rekor.sigstore.dev"
  pub rekor_agent : usual.user_agent ≡ Some (codes "sigstore-rs/0.15.0")
  pub rekor_body_bytes : usual.max_body_bytes ≡ 4294967295
  pub fulcio_root : authority.FULCIO_ROOT.now ≡ codes "https://fulcio.sigstore.dev/"
  pub signing_cert_path : authority.SIGNING_CERT_PATH.now ≡ codes "api/v1/signingCert"
  pub signing_cert_v2_path : authority.SIGNING_CERT_V2_PATH.now ≡ codes "api/v2/signingCert"
