-- The headers of a request to Fulcio, one after another.
use Rattle.std.proofs.Common.{◌≡◌, ℕ, List, Option, Some, codes, sym, ap, ◌∙◌}
use Rattle.std.specs.FinMap as map
use Rattle.json_tables.specs.Reading as option
use Rattle.oci_transport.specs.Headers.{Fields, with_header}
use Rattle.sig_services.specs.Client.{with_type, with_accept, headers_with}

pub three : (credentials given : List ℕ) (accept : Option (List ℕ)) (none h1 h2 : Fields) (o1 o2 o3 : Option Fields) → none ≡ map.empty → given ≡ credentials
    → o1 ≡ with_header none (codes "authorization") given → o1 ≡ Some h1 → o2 ≡ with_header h1 (codes "content-type") (codes "application/json") → o2 ≡ Some h2 → o3 ≡ with_accept accept h2
    → o3 ≡ headers_with credentials accept
unfolding headers_with
three credentials given accept none h1 h2 o1 o2 o3 empty same e1 is1 e2 is2 e3 =
    let first : with_header map.empty (codes "authorization") credentials ≡ Some h1 = rw (empty, same) at (sym e1 ∙ is1) in
    let second : with_type h1 ≡ Some h2 = sym e2 ∙ is2 in
    e3 ∙ sym (ap (λ (o : Option Fields). option.◌>>=◌ o (λ headers. option.◌>>=◌ (with_type headers) (with_accept accept))) first ∙ ap (λ (o : Option Fields). option.◌>>=◌ o (with_accept accept)) second)
