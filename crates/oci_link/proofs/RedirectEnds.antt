-- Steps of a map from texts to texts.
use Rattle.std.proofs.Common.{◌≡◌, ℕ, zero, suc, true, List, Some, None, refl, ap, ◌∙◌}
use Rattle.std.specs.Option.{option_map_or}
use Rattle.std.specs.FinMap as map
use Rattle.oci_link.specs.Leads.{Texts, ends_within}

pub ends_here : (n : ℕ) (redirects : Texts) (text : List ℕ) → map.get redirects text ≡ None → ends_within n redirects text ≡ true
ends_here zero redirects text none = rw none refl
ends_here (suc n) redirects text none = rw none refl

pub ends_further : (n m : ℕ) (redirects : Texts) (text next : List ℕ) → n ≡ suc m → map.get redirects text ≡ Some next → ends_within n redirects text ≡ ends_within m redirects next
ends_further n m redirects text next is some = ap (λ k. ends_within k redirects text) is ∙ ap (λ o. option_map_or (ends_within m redirects) o true) some
