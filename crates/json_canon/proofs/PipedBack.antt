-- What a canonical text parses to, and what `pipe` returns for it.
use Rattle.std.proofs.Common.{◌≡◌, ℕ, ◌≤◌, ◌<◌, List, inl, inr, Some, None, Result, Ok, Err, sym, ap, subst, ◌∙◌, IsUtf8}
use Rattle.std.specs.Prelude.{if◌then◌else◌}
use Rattle.std.proofs.lemmas.Bool.Decides.{leb_tells}
use Rattle.std.proofs.lemmas.Str.{is_utf8-from_IsUtf8}
use Rattle.serde_json.specs.Data.{Data, depth}
use Rattle.serde_json.specs.Read.{read, max_depth}
use Rattle.serde_json.specs.Written.{compact_text}
use Rattle.json_values.specs.JsonText.{json_of}
use Rattle.json_events.specs.declared.error.CanonError.{CanonError}
use Rattle.json_events.specs.declared.error.CanonError.TheVariants.{Float, IntegerOutOfRange, DuplicateKey, RawFragment, NotWellNested, Unreadable, SinkFault, WantOfMemory}
use Rattle.json_events.specs.Canonical.{Canonical}
use Rattle.json_events.specs.Refused.{refused}
use Rattle.json_events.specs.Values.{IsValue}
use Rattle.json_canon.specs.AsMaps.{as_maps}
use Rattle.json_canon.specs.Outcomes.{PipesText, Pipes}
use Rattle.json_canon.specs.TextLaws.{TextsTell, TextsReadBack, GivesBack, PipesBack}
use Rattle.json_canon.proofs.Compact.{by_names, by_names_text}
use Rattle.json_canon.proofs.Maps.{AreApart, value_apart, still_apart, again, by_bytes_tells, by_units_tells, maps_in_order}
use Rattle.json_canon.proofs.ReadBack.{spells, one_value, read_shallow, read_deep, maps_unrefused}
use Rattle.json_canon.proofs.Texts.{canonical_utf8}

-- arranging by the names' units gives the same result from any order
named_maps : (d : Data) → AreApart d → by_names (as_maps d) ≡ by_names d
named_maps d a = ap by_names (maps_in_order d a) ∙ again by_units_tells by_bytes_tells d a

pub texts_tell : TextsTell
texts_tell d e t u value other is also =
    let a = value_apart d value in
    let b = value_apart e other in (
      λ same. one_value d e t (spells d t a is) (spells e t b (subst (Canonical e) (sym same) also)),
      λ same. by_names_text d t a is ∙ ap compact_text (sym (named_maps d a) ∙ ap by_names same ∙ named_maps e b) ∙ sym (by_names_text e u b also),
    )

json_read : (t : List ℕ) → IsUtf8 t → json_of t ≡ read t
json_read t text = ap (λ b. if b then read t else None) (is_utf8-from_IsUtf8 t text)

shallow : (d : Data) (t : List ℕ) → IsValue d → Canonical d t → depth d ≤ max_depth → json_of t ≡ Some (as_maps d)
shallow d t value is low = json_read t (canonical_utf8 d t value is) ∙ read_shallow d t (spells d t (value_apart d value) is) low

deep : (d : Data) (t : List ℕ) → IsValue d → Canonical d t → max_depth < depth d → json_of t ≡ None
deep d t value is high = json_read t (canonical_utf8 d t value is) ∙ read_deep d t (spells d t (value_apart d value) is) high

pub texts_read_back : TextsReadBack
texts_read_back d t value is = elim (leb_tells (depth d) max_depth) [
  | inl low ↦ shallow d t value is low.1 ∙ sym (ap (λ b. if b then Some (as_maps d) else None) low.0)
  | inr high ↦ deep d t value is high.1 ∙ sym (ap (λ b. if b then Some (as_maps d) else None) high.0)
]

read_value : (d : Data) (t : List ℕ) (v : Data) → IsValue d → Canonical d t → json_of t ≡ Some v → (depth d ≤ max_depth) × (v ≡ as_maps d)
read_value d t v value is read = elim (leb_tells (depth d) max_depth) [
  | inl low ↦ (low.1, let e : Some v ≡ Some (as_maps d) = sym read ∙ shallow d t value is low.1 in cc)
  | inr high ↦ let e : Some v ≡ None = sym read ∙ deep d t value is high.1 in cc
]

unread_value : (d : Data) (t : List ℕ) → IsValue d → Canonical d t → json_of t ≡ None → max_depth < depth d
unread_value d t value is none = elim (leb_tells (depth d) max_depth) [
  | inl low ↦ let e : None ≡ Some (as_maps d) = sym none ∙ shallow d t value is low.1 in cc
  | inr high ↦ high.1
]

text_back : (d : Data) (t u : List ℕ) → IsValue d → Canonical d t → Pipes t u → GivesBack (Ok u) d t
text_back d t u value is p =
    let a = value_apart d value in
    let found = read_value d t p.value value is p.read in
    let canonical : Canonical (as_maps d) u = subst (λ v. Canonical v u) found.1 p.canonical in
    (by_names_text (as_maps d) u (subst AreApart (sym (maps_in_order d a)) (still_apart by_bytes_tells d a)) canonical ∙ ap compact_text (named_maps d a) ∙ sym (by_names_text d t a is), found.0)

unrefused : (d : Data) (t : List ℕ) (v : Data) (e : CanonError) → IsValue d → Canonical d t → json_of t ≡ Some v → refused v ≡ Some e → ⊥
unrefused d t v e value is read refuses =
    let found = read_value d t v value is read in
    let some : None ≡ Some e = sym (maps_unrefused d t (value_apart d value) is) ∙ ap refused (sym found.1) ∙ refuses in
    cc

pub piped_back : (r : Result (List ℕ) CanonError) (t : List ℕ) → PipesText r t → PipesBack r t
piped_back (Ok u) t p d value is = text_back d t u value is p
piped_back (Err Float) t p d value is = unrefused d t p.value Float value is p.read p.refuses
piped_back (Err IntegerOutOfRange) t p d value is = unrefused d t p.value IntegerOutOfRange value is p.read p.refuses
piped_back (Err DuplicateKey) t p d value is = absurd p.refuses
piped_back (Err RawFragment) t p d value is = absurd p.refuses
piped_back (Err NotWellNested) t p d value is = absurd p.refuses
piped_back (Err Unreadable) t p d value is = unread_value d t value is p
piped_back (Err SinkFault) t p d value is = absurd p.refuses
piped_back (Err WantOfMemory) t p d value is = tt
