-- The media types of payloads (cosign) and of bundles (sigstore bundle v0.3): each public constant is its text.
use Rattle.std.specs.Prelude.{◌≡◌, codes, refl}
use Rattle.cosign_parts.specs.declared.bundle.TheConstants as bundles
use Rattle.cosign_parts.specs.declared.payload.TheConstants as payloads

pub bundle_type_is : bundles.BUNDLE_TYPE.now ≡ codes "application/vnd.dev.sigstore.bundle.v0.3+json"
bundle_type_is = refl

pub simple_signing_type_is : payloads.SIMPLE_SIGNING_TYPE.now ≡ codes "application/vnd.dev.cosign.simplesigning.v1+json"
simple_signing_type_is = refl
