-- A maker of keys of one kind.
use Rattle.std.specs.Prelude.{ℕ, List, nat_eq, if◌then◌else◌, Option, Some, None}
use Rattle.key_parts.specs.declared.scheme.KeyKind.{KeyKind}
use Rattle.key_parts.specs.declared.scheme.KeyKind.TheVariants.{P256, P384, P521, Ed25519, Rsa}

abbrev pub place_of : KeyKind → ℕ
place_of P256 = 0
place_of P384 = 1
place_of P521 = 2
place_of Ed25519 = 3
place_of Rsa = 4

-- the public key, if the kinds are equal
abbrev pub reads_as : KeyKind → KeyKind → List ℕ → Option (List ℕ)
reads_as one asked key = if nat_eq (place_of asked) (place_of one) then Some key else None
