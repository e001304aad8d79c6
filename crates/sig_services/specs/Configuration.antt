-- The configuration of calls to Rekor.
use Rattle.std.specs.Prelude.{Some, None, codes}
use Rattle.sig_services.specs.declared.configuration.Configuration.{Configuration}

-- the public instance
abbrev pub usual : Configuration
usual = record {
  base_path = codes "https://rekor.sigstore.dev";
  user_agent = Some (codes "sigstore-rs/0.15.0");
  basic_auth = None;
  oauth_access_token = None;
  bearer_access_token = None;
  api_key = None;
  max_body_bytes = 4294967295;
}
