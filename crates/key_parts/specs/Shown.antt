-- How curves are printed.
use Rattle.std.specs.Prelude.{ℕ, List, codes}
use Rattle.key_parts.specs.declared.scheme.EllipticCurve.{EllipticCurve}
use Rattle.key_parts.specs.declared.scheme.EllipticCurve.TheVariants.{P256, P384, P521}

abbrev pub curve_name : EllipticCurve → List ℕ
curve_name P256 = codes "P256"
curve_name P384 = codes "P384"
curve_name P521 = codes "P521"
