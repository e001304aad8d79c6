-- The addresses of the public Fulcio instance: the text of each public constant.
use Rattle.std.specs.Prelude.{◌≡◌, codes, refl}
use Rattle.sig_services.specs.declared.client.TheConstants as constant

pub fulcio_root : constant.FULCIO_ROOT.now ≡ codes "https://fulcio.sigstore.dev/"
fulcio_root = refl

pub signing_cert_path : constant.SIGNING_CERT_PATH.now ≡ codes "api/v1/signingCert"
signing_cert_path = refl

pub signing_cert_v2_path : constant.SIGNING_CERT_V2_PATH.now ≡ codes "api/v2/signingCert"
signing_cert_v2_path = refl
