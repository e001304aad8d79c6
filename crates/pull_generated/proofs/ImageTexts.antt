-- The texts of the image are those of JSON data.
use Rattle.std.proofs.Common.{◌≡◌, ℕ, true, false, List, [], ◌∷◌, ◌++◌, map, flat_map, codes, refl, sym, ap, ◌∙◌, append_assoc, append-nil}
use Rattle.std.specs.Prelude.{decimal}
use Rattle.std.specs.Fmt.{digits}
use Rattle.json.specs.Print.{escape, escape_byte, quoted}
use Rattle.serde_json.specs.Data.{Data, null, number, unsigned, string, array, object, Items, no_items, item, Members, no_members, member}
use Rattle.serde_json.specs.Written.{compact_text, items_text, members_text}
use Rattle.pull_generated.specs.Texts.{descriptor_text, manifest_around, joined, payload_text}

-- a text without escapes
quoted_behind : (s rest : List ℕ) → escape s ≡ s → quoted s ++ rest ≡ 34 ∷ (s ++ 34 ∷ rest)
quoted_behind s rest same = ap (λ (xs : List ℕ). 34 ∷ xs) (append_assoc (escape s) (34 ∷ []) rest ∙ ap (λ (e : List ℕ). e ++ 34 ∷ rest) same)

-- ---- descriptors

abbrev pub descriptor_data : List ℕ → List ℕ → ℕ → Members → Data
descriptor_data kind digest size more = object (member (codes "mediaType") (string kind) (member (codes "digest") (string digest) (member (codes "size") (number (unsigned size)) more)))

abbrev size_part : ℕ → Members → List ℕ
size_part size more = codes ",\"size\":" ++ (decimal size ++ members_text true more)

pub descriptor_spelled : (kind digest : List ℕ) (size : ℕ) (more : Members) (text : List ℕ) → escape kind ≡ kind → escape digest ≡ digest → members_text true more ≡ text ++ codes "}" → compact_text (descriptor_data kind digest size more) ≡ descriptor_text kind digest size text
unfolding escape_byte
descriptor_spelled kind digest size more text plain_kind plain_digest ends =
    ap (λ (xs : List ℕ). codes "{\"mediaType\":" ++ xs) (quoted_behind kind (codes ",\"digest\":" ++ (quoted digest ++ size_part size more)) plain_kind)
    ∙ ap (λ (xs : List ℕ). codes "{\"mediaType\":\"" ++ (kind ++ (codes "\",\"digest\":" ++ xs))) (quoted_behind digest (size_part size more) plain_digest)
    ∙ ap (λ (xs : List ℕ). codes "{\"mediaType\":\"" ++ (kind ++ (codes "\",\"digest\":\"" ++ (digest ++ (codes "\",\"size\":" ++ (decimal size ++ xs)))))) ends

-- ---- lists of descriptors

abbrev pub items : List Data → Items
items [] = no_items
items (d ∷ ds) = item d (items ds)

behind : {X : Type 0} (f : X → List ℕ) (g : X → Data) → ((x : X) → compact_text (g x) ≡ f x) → (xs : List X) → flat_map (λ one. codes "," ++ one) (map f xs) ++ 93 ∷ [] ≡ items_text true (items (map g xs))
behind f g same [] = refl
behind f g same (x ∷ xs) =
    ap (λ (t : List ℕ). 44 ∷ t) (append_assoc (f x) (flat_map (λ one. codes "," ++ one) (map f xs)) (93 ∷ [])
    ∙ ap (λ (t : List ℕ). f x ++ t) (behind f g same xs) ∙ ap (λ (t : List ℕ). t ++ items_text true (items (map g xs))) (sym (same x)))

pub joined_spelled : {X : Type 0} (f : X → List ℕ) (g : X → Data) → ((x : X) → compact_text (g x) ≡ f x) → (xs : List X) → joined (map f xs) ++ 93 ∷ [] ≡ items_text false (items (map g xs))
joined_spelled f g same [] = refl
joined_spelled f g same (x ∷ xs) =
    append_assoc (f x) (flat_map (λ one. codes "," ++ one) (map f xs)) (93 ∷ [])
    ∙ ap (λ (t : List ℕ). f x ++ t) (behind f g same xs) ∙ ap (λ (t : List ℕ). t ++ items_text true (items (map g xs))) (sym (same x))

-- ---- manifests

abbrev pub manifest_data : Data → List Data → Data
manifest_data config layers = object (member (codes "schemaVersion") (number (unsigned 2)) (member (codes "mediaType") (string (codes "application/vnd.oci.image.manifest.v1+json")) (member (codes "config") config (member (codes "layers") (array (items layers)) no_members))))

abbrev front : List ℕ
front = codes "{\"schemaVersion\":2,\"mediaType\":\"application/vnd.oci.image.manifest.v1+json\",\"config\":"

pub manifest_spelled : (config : Data) (layers : List Data) (c j : List ℕ) → compact_text config ≡ c → j ++ 93 ∷ [] ≡ items_text false (items layers) → compact_text (manifest_data config layers) ≡ manifest_around c j
unfolding escape_byte digits
manifest_spelled config layers c j is ends =
    ap (λ (xs : List ℕ). front ++ (xs ++ (codes ",\"layers\":[" ++ (items_text false (items layers) ++ codes "}")))) is
    ∙ ap (λ (xs : List ℕ). front ++ (c ++ (codes ",\"layers\":[" ++ xs))) (ap (λ (xs : List ℕ). xs ++ codes "}") (sym ends) ∙ append_assoc j (93 ∷ []) (codes "}"))

-- ---- the payload

abbrev pub payload_data : List ℕ → Data
payload_data digest =
    object (member (codes "critical") (object (member (codes "identity") (object (member (codes "docker-reference") (string (codes "localhost:5000/gen")) no_members)) (member (codes "image") (object (member (codes "docker-manifest-digest") (string digest) no_members)) (member (codes "type") (string (codes "cosign container image signature")) no_members)))) (member (codes "optional") null no_members))

abbrev type_part : List ℕ
type_part = codes ",\"type\":\"cosign container image signature\"}"

abbrev optional_part : List ℕ
optional_part = codes ",\"optional\":null}"

pub payload_spelled : (digest : List ℕ) → escape digest ≡ digest → compact_text (payload_data digest) ≡ payload_text digest
unfolding escape_byte payload_text
payload_spelled digest plain =
    ap (λ (xs : List ℕ). codes "{\"critical\":{\"identity\":{\"docker-reference\":\"localhost:5000/gen\"},\"image\":{\"docker-manifest-digest\":" ++ xs)
    (append_assoc (quoted digest ++ 125 ∷ []) type_part optional_part ∙ append_assoc (quoted digest) (125 ∷ []) (type_part ++ optional_part) ∙ quoted_behind digest (125 ∷ (type_part ++ optional_part)) plain)
