-- Which kinds of keys sign under which schemes.
use Rattle.std.specs.Prelude.{Bool, true, false}
use Rattle.key_parts.specs.declared.scheme.EllipticCurve.{EllipticCurve}
use Rattle.key_parts.specs.declared.scheme.EllipticCurve.TheVariants as curve
use Rattle.key_parts.specs.declared.scheme.KeyKind.{KeyKind}
use Rattle.key_parts.specs.declared.scheme.KeyKind.TheVariants as kind
use Rattle.key_parts.specs.declared.scheme.PaddingScheme.{PaddingScheme}
use Rattle.key_parts.specs.declared.scheme.PaddingScheme.TheVariants.{PSS, PKCS1v15}
use Rattle.key_parts.specs.declared.scheme.SigningScheme.{SigningScheme}
use Rattle.key_parts.specs.declared.scheme.SigningScheme.TheVariants.{RSA_PSS_SHA256, RSA_PKCS1_SHA256}
use Rattle.key_parts.specs.declared.scheme.SigningScheme.TheVariants.{ECDSA_P256_SHA256_ASN1, ECDSA_P384_SHA384_ASN1}
use Rattle.key_parts.specs.declared.scheme.SigningScheme.TheVariants.{ECDSA_P521_SHA512_ASN1, ED25519}

-- the kind of a curve's keys
abbrev pub kind_of : EllipticCurve → KeyKind
kind_of curve.P256 = kind.P256
kind_of curve.P384 = kind.P384
kind_of curve.P521 = kind.P521

-- the scheme of a curve
abbrev pub curve_scheme : EllipticCurve → SigningScheme
curve_scheme curve.P256 = ECDSA_P256_SHA256_ASN1
curve_scheme curve.P384 = ECDSA_P384_SHA384_ASN1
curve_scheme curve.P521 = ECDSA_P521_SHA512_ASN1

-- the RSA scheme of a padding, without a key size
abbrev pub padding_scheme : PaddingScheme → SigningScheme
padding_scheme PSS = RSA_PSS_SHA256 0
padding_scheme PKCS1v15 = RSA_PKCS1_SHA256 0

-- the padding of an RSA scheme
abbrev pub padding_under : SigningScheme → PaddingScheme
padding_under (RSA_PSS_SHA256 size) = PSS
padding_under (RSA_PKCS1_SHA256 size) = PKCS1v15
padding_under ECDSA_P256_SHA256_ASN1 = PSS
padding_under ECDSA_P384_SHA384_ASN1 = PSS
padding_under ECDSA_P521_SHA512_ASN1 = PSS
padding_under ED25519 = PSS

-- whether keys of this kind sign under this scheme
abbrev pub fits : KeyKind → SigningScheme → Bool
fits kind.P256 ECDSA_P256_SHA256_ASN1 = true
fits kind.P384 ECDSA_P384_SHA384_ASN1 = true
fits kind.P521 ECDSA_P521_SHA512_ASN1 = true
fits kind.Ed25519 ED25519 = true
fits kind.Rsa (RSA_PSS_SHA256 size) = true
fits kind.Rsa (RSA_PKCS1_SHA256 size) = true
fits key scheme = false
