-- The token that Fulcio receives.
use Rattle.std.specs.Prelude.{ℕ, List}
use Rattle.service_models.specs.declared.token.TokenProvider.{TokenProvider}
use Rattle.service_models.specs.declared.token.TokenProvider.TheVariants.{Static}

-- the token, and the challenge that the caller signs
abbrev pub token_of : TokenProvider → List ℕ × List ℕ
token_of (Static token challenge) = (token, challenge)
