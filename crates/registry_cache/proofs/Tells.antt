-- Equal keys have equal settings.
use Rattle.std.proofs.Common.{◌≡◌, ℕ, List, [], ◌∷◌, map, codes, Option, Some, None, refl, sym, ap, subst}
use Rattle.std.specs.Str.{chars}
use Rattle.serde_json.specs.Data.{Data, string, array, object, Items, item, no_members, member}
use Rattle.serde_json.specs.View.{items_of}
use Rattle.json_values.specs.Writing.{null_or}
use Rattle.json_events.specs.Canonical.{Canonical, array_text, object_text}
use Rattle.json_values.specs.Canon.{quoted_text}
use Rattle.json_events.specs.Units.{units}
use Rattle.json_canon.specs.AsMaps.{as_maps, items_as_maps}
use Rattle.json_canon.proofs.Maps.{Told, AreApart, ItemsApart, MembersApart}
use Rattle.json_canon.proofs.ReadBack.{spells, one_value}
use Rattle.oci_names.specs.Reference.{whole_text}
use Rattle.oci_auth.specs.declared.auth.RegistryAuth.{RegistryAuth}
use Rattle.oci_auth.specs.declared.auth.RegistryAuth.TheVariants.{Anonymous, Basic, Bearer}
use Rattle.registry_cache.specs.declared.manifest_settings.PullManifestSettings.{PullManifestSettings}
use Rattle.registry_cache.specs.declared.pull_settings.PullSettings.{PullSettings}
use Rattle.registry_cache.specs.declared.referrers_settings.PullReferrersSettings.{PullReferrersSettings}
use Rattle.registry_cache.specs.Keys.{auth_text, text_or_null}
use Rattle.registry_cache.specs.Settings.{ManifestKeysTell, PullKeysTell, ReferrersKeysTell, credentials_value, manifest_value, pull_value, referrers_value}
use Rattle.registry_cache.proofs.KeyTexts.{manifest_canonical, pull_canonical, referrers_canonical}

-- values with one canonical text are equal as maps
one_text : (d e : Data) (t u : List ℕ) → AreApart d → AreApart e → Canonical d t → Canonical e u → t ≡ u → as_maps d ≡ as_maps e
one_text d e t u a b is also same = one_value d e t (spells d t a is) (spells e t b (subst (Canonical e) (sym same) also))

-- ---- no object has two members of one name

auth_image : Told (codes "auth") (codes "image")
unfolding units chars
auth_image = (λ e. cc, λ e. cc)

types_auth : Told (codes "accepted_media_types") (codes "auth")
unfolding units chars
types_auth = (λ e. cc, λ e. cc)

types_image : Told (codes "accepted_media_types") (codes "image")
unfolding units chars
types_image = (λ e. cc, λ e. cc)

type_auth : Told (codes "artifact_type") (codes "auth")
unfolding units chars
type_auth = (λ e. cc, λ e. cc)

type_image : Told (codes "artifact_type") (codes "image")
unfolding units chars
type_image = (λ e. cc, λ e. cc)

auth_apart : (a : RegistryAuth) → AreApart (credentials_value a)
auth_apart Anonymous = tt
auth_apart (Basic user password) = (tt, (tt, (tt, tt)), tt)
auth_apart (Bearer token) = (tt, tt, tt)

texts_apart : (ts : List (List ℕ)) → ItemsApart (items_of (map (λ t. string t) ts))
texts_apart [] = tt
texts_apart (t ∷ ts) = (tt, texts_apart ts)

null_apart : (o : Option (List ℕ)) → AreApart (null_or (λ t. string t) o)
null_apart None = tt
null_apart (Some t) = tt

two_apart : (auth : RegistryAuth) (image : List ℕ) → MembersApart (member (codes "auth") (credentials_value auth) (member (codes "image") (string image) no_members))
two_apart auth image = ((auth_image, tt), auth_apart auth, (tt, tt, tt))

-- ---- equal values have equal parts

two_parts : (a b c d : Data) → object (member (codes "auth") a (member (codes "image") b no_members)) ≡ object (member (codes "auth") c (member (codes "image") d no_members)) → (a ≡ c) × (b ≡ d)
two_parts a b c d e = (cc, cc)

three_parts : (k : List ℕ) (x a b y c d : Data) → object (member k x (member (codes "auth") a (member (codes "image") b no_members))) ≡ object (member k y (member (codes "auth") c (member (codes "image") d no_members))) → (x ≡ y) × (a ≡ c) × (b ≡ d)
three_parts k x a b y c d e = (cc, cc, cc)

string_text : (s t : List ℕ) → string s ≡ string t → s ≡ t
string_text s t e = cc

same_auth : (a b : RegistryAuth) → as_maps (credentials_value a) ≡ as_maps (credentials_value b) → a ≡ b
same_auth Anonymous Anonymous e = refl
same_auth Anonymous (Basic user password) e = cc
same_auth Anonymous (Bearer token) e = cc
same_auth (Basic user password) Anonymous e = cc
same_auth (Basic user password) (Basic name word) e = cc
same_auth (Basic user password) (Bearer token) e = cc
same_auth (Bearer token) Anonymous e = cc
same_auth (Bearer token) (Basic user password) e = cc
same_auth (Bearer token) (Bearer other) e = cc

items_parts : (d e : Data) (ds es : Items) → item d ds ≡ item e es → (d ≡ e) × (ds ≡ es)
items_parts d e ds es h = (cc, cc)

same_texts : (ts us : List (List ℕ)) → items_as_maps (items_of (map (λ t. string t) ts)) ≡ items_as_maps (items_of (map (λ t. string t) us)) → ts ≡ us
same_texts [] [] e = refl
same_texts [] (u ∷ us) e = cc
same_texts (t ∷ ts) [] e = cc
same_texts (t ∷ ts) (u ∷ us) e =
    let parts = items_parts _ _ _ _ e in
    let first = string_text t u parts.0 in
    let rest = same_texts ts us parts.1 in
    λ i. first i ∷ rest i

array_items : (ds es : Items) → array ds ≡ array es → ds ≡ es
array_items ds es e = cc

same_null : (o p : Option (List ℕ)) → as_maps (null_or (λ t. string t) o) ≡ as_maps (null_or (λ t. string t) p) → o ≡ p
same_null None None e = refl
same_null None (Some t) e = cc
same_null (Some t) None e = cc
same_null (Some s) (Some t) e = ap (λ x. Some x) (string_text s t e)

-- ---- the laws

pub manifest_keys_tell : ManifestKeysTell
manifest_keys_tell image other auth others = (
  λ same.
      let s : PullManifestSettings = record { image = image; auth = auth } in
      let t : PullManifestSettings = record { image = other; auth = others } in
      let value = one_text (manifest_value s) (manifest_value t) _ _ (two_apart auth (whole_text image)) (two_apart others (whole_text other)) (manifest_canonical s) (manifest_canonical t) same in
      let parts = two_parts _ _ _ _ value in
      (string_text _ _ parts.1, same_auth auth others parts.0),
  λ same i. object_text ((codes "auth", auth_text (same.1 i)) ∷ (codes "image", quoted_text (same.0 i)) ∷ []),
)

pub pull_keys_tell : PullKeysTell
pull_keys_tell image other auth others types kinds = (
  λ same.
      let s : PullSettings = record { image = image; auth = auth; accepted_media_types = types } in
      let t : PullSettings = record { image = other; auth = others; accepted_media_types = kinds } in
      let value = one_text (pull_value s) (pull_value t) _ _ ((types_auth, (types_image, tt)), texts_apart types, two_apart auth (whole_text image)) ((types_auth, (types_image, tt)), texts_apart kinds, two_apart others (whole_text other)) (pull_canonical s) (pull_canonical t) same in
      let parts = three_parts _ _ _ _ _ _ _ value in
      (string_text _ _ parts.2, same_auth auth others parts.1, same_texts types kinds (array_items _ _ parts.0)),
  λ same i. object_text ((codes "accepted_media_types", array_text (map quoted_text (same.2 i))) ∷ (codes "auth", auth_text (same.1 i)) ∷ (codes "image", quoted_text (same.0 i)) ∷ []),
)

pub referrers_keys_tell : ReferrersKeysTell
referrers_keys_tell image other auth others type kind = (
  λ same.
      let s : PullReferrersSettings = record { image = image; auth = auth; artifact_type = type } in
      let t : PullReferrersSettings = record { image = other; auth = others; artifact_type = kind } in
      let value = one_text (referrers_value s) (referrers_value t) _ _ ((type_auth, (type_image, tt)), null_apart type, two_apart auth (whole_text image)) ((type_auth, (type_image, tt)), null_apart kind, two_apart others (whole_text other)) (referrers_canonical s) (referrers_canonical t) same in
      let parts = three_parts _ _ _ _ _ _ _ value in
      (string_text _ _ parts.2, same_auth auth others parts.1, same_null type kind parts.0),
  λ same i. object_text ((codes "artifact_type", text_or_null (same.2 i)) ∷ (codes "auth", auth_text (same.1 i)) ∷ (codes "image", quoted_text (same.0 i)) ∷ []),
)
