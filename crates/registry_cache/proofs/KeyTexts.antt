-- The keys are the canonical texts of the settings.
use Rattle.std.proofs.Common.{◌≡◌, ℕ, List, [], ◌∷◌, map, codes, Option, Some, None, Result, Ok, Err, refl}
use Rattle.std.specs.Prelude.{IfOk}
use Rattle.std.specs.List.Sorted.{IsStrictlySortedBy}
use Rattle.std.specs.Str.{chars}
use Rattle.std.proofs.lemmas.List.Sorted.{IsPermutation-refl}
use Rattle.serde_json.specs.Data.{string}
use Rattle.serde_json.specs.View.{items_of}
use Rattle.json_values.specs.Canon.{quoted_text}
use Rattle.json_values.specs.Writing.{null_or}
use Rattle.json_events.specs.Canonical.{Canonical, CanonicalItems, Entry, Rises, IsObjectText, array_text, object_text}
use Rattle.json_events.specs.Refused.{refused}
use Rattle.json_events.specs.Units.{units}
use Rattle.json_events.proofs.Unique.{unique, plain}
use Rattle.oci_names.specs.Reference.{whole_text}
use Rattle.oci_auth.specs.declared.auth.RegistryAuth.{RegistryAuth}
use Rattle.oci_auth.specs.declared.auth.RegistryAuth.TheVariants.{Anonymous, Basic, Bearer}
use Rattle.registry_cache.specs.declared.manifest_settings.PullManifestSettings.{PullManifestSettings}
use Rattle.registry_cache.specs.declared.pull_settings.PullSettings.{PullSettings}
use Rattle.registry_cache.specs.declared.referrers_settings.PullReferrersSettings.{PullReferrersSettings}
use Rattle.registry_cache.specs.Auths.{auth_from, auth_value}
use Rattle.registry_cache.specs.Keys.{auth_text, text_or_null, manifest_key, pull_key, referrers_key}
use Rattle.registry_cache.specs.Settings.{manifest_value, pull_value, referrers_value}

abbrev one : List ℕ → List ℕ → List Entry
one name text = (name, text) ∷ []

abbrev two : List ℕ → List ℕ → List Entry
two auth image = (codes "auth", auth) ∷ (codes "image", image) ∷ []

abbrev types_and_two : List ℕ → List ℕ → List ℕ → List Entry
types_and_two types auth image = (codes "accepted_media_types", types) ∷ two auth image

abbrev type_and_two : List ℕ → List ℕ → List ℕ → List Entry
type_and_two type auth image = (codes "artifact_type", type) ∷ two auth image

one_rises : (name text : List ℕ) → Rises (one name text)
unfolding IsStrictlySortedBy
one_rises name text = (tt, tt)

two_rise : (auth image : List ℕ) → Rises (two auth image)
unfolding units chars IsStrictlySortedBy
two_rise auth image = ((refl, tt), (tt, tt))

types_rise : (types auth image : List ℕ) → Rises (types_and_two types auth image)
unfolding units chars IsStrictlySortedBy
types_rise types auth image = ((refl, (refl, tt)), ((refl, tt), (tt, tt)))

type_rises : (type auth image : List ℕ) → Rises (type_and_two type auth image)
unfolding units chars IsStrictlySortedBy
type_rises type auth image = ((refl, (refl, tt)), ((refl, tt), (tt, tt)))

in_order : (es : List Entry) → Rises es → IsObjectText es (object_text es)
in_order es rises = record { order = es; same = IsPermutation-refl es; rises = rises; text = refl }

auth_canonical : (a : RegistryAuth) → Canonical (auth_value (auth_from a)) (auth_text a)
auth_canonical Anonymous = refl
auth_canonical (Basic user password) =
    let texts : List (List ℕ) = quoted_text user ∷ quoted_text password ∷ [] in
    let pair = array_text texts in
    (one (codes "Basic") pair, (refl, (texts, (refl, (refl, tt)), refl), tt), in_order (one (codes "Basic") pair) (one_rises (codes "Basic") pair))
auth_canonical (Bearer token) = (one (codes "Bearer") (quoted_text token), (refl, refl, tt), in_order (one (codes "Bearer") (quoted_text token)) (one_rises (codes "Bearer") (quoted_text token)))

texts_canonical : (ts : List (List ℕ)) → CanonicalItems (items_of (map (λ t. string t) ts)) (map quoted_text ts)
texts_canonical [] = tt
texts_canonical (t ∷ ts) = (refl, texts_canonical ts)

null_canonical : (o : Option (List ℕ)) → Canonical (null_or (λ t. string t) o) (text_or_null o)
null_canonical None = refl
null_canonical (Some t) = refl

pub manifest_canonical : (s : PullManifestSettings) → Canonical (manifest_value s) (manifest_key s.image s.auth)
manifest_canonical s =
    let auth = auth_text s.auth in
    let image = quoted_text (whole_text s.image) in
    (two auth image, (refl, auth_canonical s.auth, (refl, refl, tt)), in_order (two auth image) (two_rise auth image))

pub pull_canonical : (s : PullSettings) → Canonical (pull_value s) (pull_key s.image s.auth s.accepted_media_types)
pull_canonical s =
    let texts = map quoted_text s.accepted_media_types in
    let types = array_text texts in
    let auth = auth_text s.auth in
    let image = quoted_text (whole_text s.image) in
    (types_and_two types auth image, (refl, (texts, texts_canonical s.accepted_media_types, refl), (refl, auth_canonical s.auth, (refl, refl, tt))), in_order (types_and_two types auth image) (types_rise types auth image))

pub referrers_canonical : (s : PullReferrersSettings) → Canonical (referrers_value s) (referrers_key s.image s.auth s.artifact_type)
referrers_canonical s =
    let type = text_or_null s.artifact_type in
    let auth = auth_text s.auth in
    let image = quoted_text (whole_text s.image) in
    (type_and_two type auth image, (refl, null_canonical s.artifact_type, (refl, auth_canonical s.auth, (refl, refl, tt))), in_order (type_and_two type auth image) (type_rises type auth image))

pub manifest_key_is : {E : Type 0} (s : PullManifestSettings) (r : Result (List ℕ) E) → IfOk r (λ t. Canonical (manifest_value s) t) → IfOk r (λ t. t ≡ manifest_key s.image s.auth)
manifest_key_is s (Ok t) is = unique (manifest_value s) t (manifest_key s.image s.auth) is (manifest_canonical s)
manifest_key_is s (Err e) is = tt

pub pull_key_is : {E : Type 0} (s : PullSettings) (r : Result (List ℕ) E) → IfOk r (λ t. Canonical (pull_value s) t) → IfOk r (λ t. t ≡ pull_key s.image s.auth s.accepted_media_types)
pull_key_is s (Ok t) is = unique (pull_value s) t (pull_key s.image s.auth s.accepted_media_types) is (pull_canonical s)
pull_key_is s (Err e) is = tt

pub referrers_key_is : {E : Type 0} (s : PullReferrersSettings) (r : Result (List ℕ) E) → IfOk r (λ t. Canonical (referrers_value s) t) → IfOk r (λ t. t ≡ referrers_key s.image s.auth s.artifact_type)
referrers_key_is s (Ok t) is = unique (referrers_value s) t (referrers_key s.image s.auth s.artifact_type) is (referrers_canonical s)
referrers_key_is s (Err e) is = tt

pub manifest_plain : (s : PullManifestSettings) → refused (manifest_value s) ≡ None
manifest_plain s = plain (manifest_value s) (manifest_key s.image s.auth) (manifest_canonical s)

pub pull_plain : (s : PullSettings) → refused (pull_value s) ≡ None
pull_plain s = plain (pull_value s) (pull_key s.image s.auth s.accepted_media_types) (pull_canonical s)

pub referrers_plain : (s : PullReferrersSettings) → refused (referrers_value s) ≡ None
referrers_plain s = plain (referrers_value s) (referrers_key s.image s.auth s.artifact_type) (referrers_canonical s)
