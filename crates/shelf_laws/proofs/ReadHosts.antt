-- A host that is parsed in a URL of http or https is one that a URL may have.
use Rattle.std.specs.Prelude.{replicate, codes}
use Rattle.std.specs.List.{list_any}
use Rattle.std.specs.Int.{w32, to_be_bytes}
use Rattle.std.specs.Net.Addr.{segments_of}
use Rattle.std.specs.Net.Grammar.{IsDotted, IsGroup, IsGroupsAfter, IsColonHex}
use Rattle.std.specs.Net.Reader.{whole_value, read_ipv6}
use Rattle.std.proofs.Common.{◌≡◌, inl, inr, ℕ, zero, suc, ◌<◌, ◌≤◌, ◌+◌, ◌-◌, ◌*◌, ◌^◌, Bool, true, false, cond, ◌==◌, List, [], ◌∷◌, ◌++◌, length, get_or, Option, Some, None, Ok, Err, refl, sym, ap, ◌∙◌, subst, arith, lit≤}
use Rattle.std.proofs.lemmas.Int.Digits.{digits_value-lt}
use Rattle.std.proofs.lemmas.List.{length-append, length-replicate}
use Rattle.std.proofs.Math.Nat.{pow-le-pow_right}
use Rattle.std.proofs.NetLemmas.Ipv6.{read_ipv6_sound}
use Rattle.percent_encoding.specs.Percent.{percent_decode}
use Rattle.url.specs.declared.host.Host.{Host}
use Rattle.url.specs.declared.host.Host.TheVariants.{Domain, Ipv4, Ipv6}
use Rattle.url.specs.declared.scheme.SchemeType.TheVariants.{SpecialNotFile}
use Rattle.url.specs.Host.{ipv6_host, ipv4_host, ascii_domain, host_of_ascii, is_forbidden_in_domain, parse_bracketed, parse_special_host, IsHostOf}
use Rattle.url.specs.Input.{is_empty}
use Rattle.url.specs.Ipv4.{ends_in_a_number, parse_ipv4}
use Rattle.url.specs.Parser.{Parsed, and_then}
use Rattle.url.proofs.HostLemmas.{none_from_list_any, ascii_domain-lower}

-- ---- steps that returned `Ok`

pub ok_then : {A B P : Type 0} (r : Parsed A) (next : A → Parsed B) (y : B) → and_then r next ≡ Ok y → ((x : A) → r ≡ Ok x → next x ≡ Ok y → P) → P
ok_then (Ok x) next y e k = k x refl e
ok_then (Err d) next y e k = cc

pub by_test : {A P : Type 0} (test : Bool) (r s : Parsed A) (y : A) → cond test r s ≡ Ok y → (test ≡ true → r ≡ Ok y → P) → (test ≡ false → s ≡ Ok y → P) → P
by_test true r s y e k l = k refl e
by_test false r s y e k l = l refl e

pub same_ok : {A : Type 0} (x y : A) → ◌≡◌ {A = Parsed A} (Ok x) (Ok y) → x ≡ y
same_ok x y e = cc

-- ---- segments of an IPv6 address

Small : List ℕ → Type 0
Small xs = (k : ℕ) → get_or xs k 0 < 2 ^ 16

small_nil : Small []
unfolding Small
small_nil k = omega arith

small_cons : (x : ℕ) (xs : List ℕ) → x < 2 ^ 16 → Small xs → Small (x ∷ xs)
unfolding Small
small_cons x xs lt h zero = lt
small_cons x xs lt h (suc k) = h k

small_append : (xs ys : List ℕ) → Small xs → Small ys → Small (xs ++ ys)
unfolding Small
small_append [] ys h k = k
small_append (x ∷ xs) ys h k = small_cons x (xs ++ ys) (h 0) (small_append xs ys (λ j. h (suc j)) k)

small_zeros : (n : ℕ) → Small (replicate n 0)
unfolding Small
small_zeros zero = small_nil
small_zeros (suc n) = small_cons 0 (replicate n 0) (omega arith) (small_zeros n)

small_group : (group : List ℕ) (s : ℕ) → IsGroup group s → s < 2 ^ 16
small_group group s h =
    let below = digits_value-lt 16 group h.0.0.1 in
    let most : 16 ^ length group ≤ 16 ^ 4 = pow-le-pow_right (lit≤ tt) h.1 in
    omega (arith, h.0.1)

small_octets : (last octets : List ℕ) → IsDotted last octets → Small (segments_of octets)
unfolding Small
small_octets last octets dotted =
    subst (λ xs. Small (segments_of xs)) (sym dotted.value)
    (small_cons (dotted.a * 256 + dotted.b) ((dotted.c * 256 + dotted.d) ∷ []) (omega (arith, dotted.fit.0, dotted.fit.1)) (small_cons (dotted.c * 256 + dotted.d) [] (omega (arith, dotted.fit.2, dotted.fit.3)) small_nil))

small_groups : (ipv4 : Bool) (lead text segments : List ℕ) → IsGroupsAfter ipv4 lead text segments → Small segments
unfolding Small
small_groups ipv4 lead text [] h = small_nil
small_groups ipv4 lead text (s ∷ segments) (inl h) = small_cons s segments (small_group h.0 s h.3) (small_groups ipv4 (codes ":") h.1 segments h.4)
small_groups ipv4 lead text (s ∷ segments) (inr h) = subst Small (sym h.5) (small_octets h.0 h.1 h.4)

small_hex : (text segments : List ℕ) → IsColonHex text segments → (length segments ≡ 8) × Small segments
small_hex text segments (inl h) = (h.1, small_groups true [] text segments h.0)
small_hex text segments (inr h) =
    let zeros = 8 - length h.head - length h.tail in
    let long = length-append (h.head ++ replicate zeros 0) h.tail in
    let more = length-append h.head (replicate zeros 0) in
    let sum : length h.head + zeros + length h.tail ≡ 8 = omega (arith, h.room) in (
      ap length h.value ∙ long ∙ ap (λ n. n + length h.tail) (more ∙ ap (λ n. length h.head + n) (length-replicate zeros 0)) ∙ sum,
      subst Small (sym h.value) (small_append (h.head ++ replicate zeros 0) h.tail (small_append h.head (replicate zeros 0) (small_groups false [] h.head_text h.head h.head_groups) (small_zeros zeros)) (small_groups true [] h.tail_text h.tail h.tail_groups)),
    )

-- ---- hosts

ipv6_valid : (text : List ℕ) (o : Option (List ℕ × List ℕ)) (host : Host (List ℕ)) → read_ipv6 text ≡ o → ipv6_host (whole_value o) ≡ Ok host → IsHostOf SpecialNotFile host
unfolding Small
ipv6_valid text None host read is = cc
ipv6_valid text (Some (segments, rest)) host read is = by_length (length rest == 0) is where
  by_length : (b : Bool) → ipv6_host (cond b (Some segments) None) ≡ Ok host → IsHostOf SpecialNotFile host
  by_length true whole = let sound = read_ipv6_sound text segments rest read in subst (IsHostOf SpecialNotFile) (same_ok (Ipv6 (record { segments = segments })) host whole) (small_hex sound.0 segments sound.2)
  by_length false more = cc

bracketed_valid : (bytes : List ℕ) (host : Host (List ℕ)) → parse_bracketed bytes ≡ Ok host → IsHostOf SpecialNotFile host
unfolding parse_bracketed
bracketed_valid bytes host e = by_test (get_or bytes (length bytes - 1) 0 == 93) _ _ host e (λ _ k. ipv6_valid _ _ host refl k) (λ _ k. cc)

four_bytes : (n : ℕ) → (length (to_be_bytes w32 n) ≡ 4) × ((k : ℕ) → get_or (to_be_bytes w32 n) k 0 < 256)
four_bytes n = (refl, small) where
  small : (k : ℕ) → get_or (to_be_bytes w32 n) k 0 < 256
  small zero = omega arith
  small (suc zero) = omega arith
  small (suc (suc zero)) = omega arith
  small (suc (suc (suc zero))) = omega arith
  small (suc (suc (suc (suc k)))) = omega arith

ipv4_valid : (o : Option ℕ) (host : Host (List ℕ)) → ipv4_host o ≡ Ok host → IsHostOf SpecialNotFile host
ipv4_valid None host is = cc
ipv4_valid (Some bits) host is = subst (IsHostOf SpecialNotFile) (same_ok (Ipv4 (record { octets = to_be_bytes w32 bits })) host is) (four_bytes bits)

ascii_valid : (bytes : List ℕ) (o : Option (List ℕ)) (host : Host (List ℕ)) → ascii_domain bytes ≡ o → host_of_ascii o ≡ Ok host → IsHostOf SpecialNotFile host
ascii_valid bytes None host read is = cc
ascii_valid bytes (Some domain) host read is =
    by_test (is_empty domain) _ _ host is (λ _ k. cc) λ some k.
    by_test (list_any is_forbidden_in_domain domain) _ _ host k (λ _ l. cc) λ allowed l.
    by_test (ends_in_a_number domain) _ _ host l (λ _ m. ipv4_valid (parse_ipv4 domain) host m) λ named m.
    subst (IsHostOf SpecialNotFile) (same_ok (Domain domain) host m)
    (record { allowed = none_from_list_any is_forbidden_in_domain domain allowed; lower = ascii_domain-lower bytes domain read; named = named }, not_empty domain some)
  where
    not_empty : (xs : List ℕ) → is_empty xs ≡ false → 0 < length xs
    not_empty [] none = cc
    not_empty (x ∷ xs) none = omega arith

pub host_valid : (bytes : List ℕ) (host : Host (List ℕ)) → parse_special_host bytes ≡ Ok host → IsHostOf SpecialNotFile host
unfolding parse_special_host
host_valid bytes host e = by_test (get_or bytes 0 0 == 91) _ _ host e (λ _ k. bracketed_valid bytes host k) (λ _ k. ascii_valid (percent_decode bytes) _ host refl k)
