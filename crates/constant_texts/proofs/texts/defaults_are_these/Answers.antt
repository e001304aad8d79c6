use Rattle.std.proofs.Common.{refl}
use Rattle.constant_texts.proofs.texts.defaults_are_these.Goals as goal

pub returns-clause-client : goal.returns-clause-client
returns-clause-client c = record { protocol = refl; use_monolithic_push = refl; platform_resolver = refl; max_concurrent_upload = refl; uploads = refl; max_concurrent_download = refl; downloads = refl; default_token_expiration_secs = refl; seconds = refl; user_agent = refl; max_body_bytes = refl }

pub returns-clause-chunks : goal.returns-clause-chunks
returns-clause-chunks c = record { chunk_size_is = refl }

pub returns-clause-addresses : goal.returns-clause-addresses
returns-clause-addresses c = record { rekor = refl; rekor_agent = refl; rekor_body_bytes = refl; fulcio_root = refl; signing_cert_path = refl; signing_cert_v2_path = refl }
