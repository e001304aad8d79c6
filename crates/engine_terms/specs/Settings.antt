-- The scheme of a registry's URLs.
use Rattle.std.specs.Prelude.{ℕ, Bool, true, false, List, [], ◌∷◌, codes, bytes_eq, if◌then◌else◌}
use Rattle.engine_terms.specs.declared.settings.ClientProtocol.{ClientProtocol}
use Rattle.engine_terms.specs.declared.settings.ClientProtocol.TheVariants.{Http, Https, HttpsExcept}

abbrev pub is_listed : List ℕ → List (List ℕ) → Bool
is_listed registry [] = false
is_listed registry (r ∷ rs) = if bytes_eq r registry then true else is_listed registry rs

-- the scheme of a registry's URLs
abbrev pub scheme_for : ClientProtocol → List ℕ → List ℕ
scheme_for Http registry = codes "http"
scheme_for Https registry = codes "https"
scheme_for (HttpsExcept registries) registry = if is_listed registry registries then codes "http" else codes "https"
