-- What calls on keys return, up to running out of memory.
use Rattle.std.specs.Prelude.{◌≡◌, ℕ, List, Bool, true, false, Option, Some, None, Result, Ok, Err, ⊤, MatchBool}
use Rattle.key_parts.specs.declared.error.KeyError.{KeyError}
use Rattle.key_parts.specs.declared.error.KeyError.TheVariants.{KeyParseError, KeyGenerationError, SigningError}
use Rattle.key_parts.specs.declared.scheme.SigningScheme.{SigningScheme}
use Rattle.key_parts.specs.Error.{is_memory}

-- none if and only if the condition is false
abbrev pub GivesIf : {A : Type 0} → Bool → (A → Type 0) → Option A → Type 0
GivesIf can P None = can ≡ false
GivesIf can P (Some x) = (can ≡ true) × P x

-- this error, if and only if a condition holds, or out of memory
abbrev pub Refuses : KeyError → Type 0 → KeyError → Type 0
Refuses cause P e = MatchBool (is_memory e) ⊤ ((e ≡ cause) × P)

-- new keys, or `KeyGenerationError` if and only if none can be made
abbrev pub Makes : {A : Type 0} → Result A KeyError → Bool → (A → Type 0) → Type 0
Makes (Ok keys) can P = (can ≡ true) × P keys
Makes (Err e) can P = Refuses KeyGenerationError (can ≡ false) e

-- the parsed keys, or `KeyParseError` if and only if there are none
abbrev pub Parses : {A : Type 0} → Result A KeyError → Option A → Type 0
Parses (Ok keys) read = read ≡ Some keys
Parses (Err e) read = Refuses KeyParseError (read ≡ None) e

-- a signature under a scheme by a private key, or `SigningError` if and only if none can be given
abbrev pub SignsBy : (SigningScheme → List ℕ → List ℕ → Bool)
    → (SigningScheme → List ℕ → List ℕ → List ℕ → Type 0)
    → SigningScheme → List ℕ → List ℕ → Result (List ℕ) KeyError → Type 0
SignsBy can Signs scheme private message (Ok signature) =
    (can scheme private message ≡ true) × Signs scheme private message signature
SignsBy can Signs scheme private message (Err e) =
    Refuses SigningError (can scheme private message ≡ false) e
