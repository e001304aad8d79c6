-- Encryption.
use Rattle.std.specs.Prelude.{◌≡◌, ℕ, List, Some}
use Rattle.key_parts.specs.Decrypt.{Derives, Opens}
use Rattle.key_parts.specs.Envelope.{envelope_text}

-- the sealed bytes under a key and a nonce
abbrev pub Seals : Type 0
Seals = List ℕ → List ℕ → List ℕ → List ℕ

-- the envelope of a private key under a password: log N is 15, r 8 and p 1
abbrev pub encrypted : Derives → Seals → List ℕ → List ℕ → List ℕ → List ℕ → List ℕ
encrypted derives seals plain password salt nonce =
    envelope_text salt nonce (seals (derives password salt 15 8 1) nonce plain)

-- the box opens what it sealed
abbrev pub OpensWhatItSeals : Derives → Seals → Opens → List ℕ → List ℕ → List ℕ → List ℕ → Type 0
OpensWhatItSeals derives seals opens plain password salt nonce =
    opens (derives password salt 15 8 1) nonce (seals (derives password salt 15 8 1) nonce plain) ≡ Some plain
