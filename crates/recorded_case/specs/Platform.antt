-- Which image of an index is selected.
use Rattle.std.specs.Prelude.{ℕ, List, [], ◌∷◌, length, nat_lt, ◌==◌, Option, Some, None, codes, if◌then◌else◌}
use Rattle.std.specs.List.{position_or_len, before_first, after_first}
use Rattle.serde_json.specs.Data.{Data, string}
use Rattle.json_tables.specs.Reading.{◌>>=◌, text_of}
use Rattle.json_tables.specs.Objects.{only}
use Rattle.json_tables.specs.Member.{required}
use Rattle.oci_manifests.specs.declared.promise.ResolverPromise.{ResolverPromise}
use Rattle.oci_manifests.specs.declared.promise.ResolverPromise.TheVariants.{FirstMatch, Fixed}

-- an operating system and an architecture, before and after the first slash
abbrev pub platform_named : List ℕ → Option ResolverPromise
platform_named text =
    if nat_lt (position_or_len (λ b. b == 47) text) (length text)
    then Some (FirstMatch (before_first (λ b. b == 47) text) (after_first (λ b. b == 47) text))
    else None

-- a digest
unfoldable pub fixed_of : Data → Option ResolverPromise
fixed_of d = do
  known ← only (codes "digest" ∷ []) d
  digest ← required text_of (codes "digest") d
  Some (Fixed digest)

-- the first image for an operating system and an architecture, or the image of a digest
unfoldable pub platform_of : Data → Option ResolverPromise
platform_of (string text) = platform_named text
platform_of d = fixed_of d
