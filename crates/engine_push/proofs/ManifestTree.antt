-- The URL of a pushed manifest, each outcome, and the layers, one after another.
use Rattle.std.proofs.Common.{◌≡◌, ◌<◌, ℕ, Bool, true, false, List, [], ◌∷◌, ◌++◌, Option, Some, None, Result, Ok, Err, length, take, refl, sym, ap, subst, ◌∙◌, arith, length-append}
use Rattle.std.specs.Prelude.{◌-◌, nat_eq, if◌then◌else◌}
use Rattle.std.specs.List.{ends_with}
use Rattle.std.specs.Str.{IsCharBoundary}
use Rattle.std.specs.Str.Pattern.{FindsTextSuffix}
use Rattle.std.proofs.lemmas.Str.Pattern.{ends_text}
use Rattle.oci_auth.specs.declared.auth_state.AuthState.{AuthState}
use Rattle.oci_manifests.specs.declared.blob.ImageLayer.{ImageLayer}
use Rattle.oci_names.specs.declared.reference.Reference.{Reference}
use Rattle.oci_protocol.specs.Proto.{bind, ◌>>=◌}
use Rattle.oci_protocol.specs.Runs.{Meets}
use Rattle.oci_protocol.proofs.Laws.{Meets-err}
use Rattle.oci_transport.specs.Link.{Link}
use Rattle.engine_terms.specs.Contexts.{Context}
use Rattle.engine_terms.specs.Error.{is_memory}
use Rattle.engine_terms.specs.declared.error.OciDistributionError.{OciDistributionError}
use Rattle.engine_terms.specs.declared.error.OciDistributionError.TheVariants as refusal
use Rattle.engine_rows.specs.Rows.{Row}
use Rattle.oci_protocol.proofs.Exits.{done}
use Rattle.engine_rows.proofs.Exits.{caught, caught_refusal, caught_memory}
use Rattle.push_rows.specs.Calls.{push_blob}
use Rattle.push_rows.specs.Images.{before_end, named_for, or_named, layers_pushed}

-- ---- the end of a text

pub found_end : (end text front : List ℕ) (n : ℕ) → FindsTextSuffix end text (Some n) → front ≡ take (length text - n) text → before_end end text ≡ Some front
found_end end text front n h is =
    let whole : length text ≡ length (take (length text - n) text ++ end) = ap length h.1 in
    let parts = length-append (take (length text - n) text) end in
    let ends : true ≡ ends_with nat_eq text end = ends_text true end text (n, h, omega (arith, whole, parts, h.0), subst (λ k. IsCharBoundary text (length text - k)) (sym h.0) h.2) in
    ap (λ b. if b then Some (take (length text - length end) text) else None) (sym ends) ∙ ap Some (ap (λ k. take (length text - k) text) (sym h.0) ∙ sym is)

pub no_end : (end text : List ℕ) → FindsTextSuffix end text None → before_end end text ≡ None
no_end end text h =
    let ends : false ≡ ends_with nat_eq text end = ends_text false end text h in
    ap (λ b. if b then Some (take (length text - length end) text) else None) (sym ends)

-- ---- a location, or the URL by the digest

only_memory : (e : OciDistributionError) → is_memory e ≡ true → e ≡ refusal.WantOfMemory
only_memory refusal.WantOfMemory is = refl
only_memory _ is = absurd (cc is)

no_memory : (e : OciDistributionError) (named : Option (List ℕ)) (url : List ℕ) → named_for e named ≡ Some url → is_memory e ≡ false
no_memory refusal.RegistryNoLocationError named url is = refl
no_memory _ named url is = absurd (cc is)

module _ (p : Row (List ℕ)) (named : Option (List ℕ)) {old new : Link} {k l : AuthState} where
  pub located_met : (location : List ℕ) → Meets is_memory p old new k l (Ok location) → Meets is_memory (bind p (or_named named)) old new k l (Ok location)
  located_met location met = caught (or_named named) met done

  pub named_met : (e : OciDistributionError) (url : List ℕ) → named_for e named ≡ Some url → Meets is_memory p old new k l (Err e) → Meets is_memory (bind p (or_named named)) old new k l (Ok url)
  named_met e url is met = caught_refusal (or_named named) (no_memory e named url is) met (rw is done)

  pub unnamed_met : (e : OciDistributionError) → named_for e named ≡ None → Meets is_memory p old new k l (Err e) → Meets is_memory (bind p (or_named named)) old new k l (Err e)
  unnamed_met e is met = by_memory (is_memory e) refl where
    by_memory : (b : Bool) → is_memory e ≡ b → Meets is_memory (bind p (or_named named)) old new k l (Err e)
    by_memory true wanted = subst (λ x. Meets is_memory (bind p (or_named named)) old new k l (Err x)) (sym (only_memory e wanted)) (caught_memory (or_named named) wanted met)
    by_memory false plain = caught_refusal (or_named named) plain met (rw is (Meets-err is_memory new l e plain))

-- ---- layers

pub no_more : {A : Type 0} (xs : List A) → length xs ≡ 0 → xs ≡ []
no_more [] none = refl
no_more (x ∷ xs) none = absurd (omega (arith, none))

module _ (s : Context) (image : Reference) where
  pub next_layer : (named more : List (List ℕ)) (left others : List ImageLayer) (digest : List ℕ) (layer : ImageLayer) {old new : Link} {k l : AuthState} {r : Result (Unit {0}) OciDistributionError} → named ≡ digest ∷ more → left ≡ layer ∷ others
      → Meets is_memory (push_blob s image layer.content digest >>= λ url. layers_pushed s image more others) old new k l r → Meets is_memory (layers_pushed s image named left) old new k l r
  unfolding layers_pushed
  next_layer named more left others digest layer named_is left_is met = rw (named_is, left_is) met

  pub none_left : (named : List (List ℕ)) (left : List ImageLayer) (link : Link) (k : AuthState) → left ≡ [] → Meets is_memory (layers_pushed s image named left) link link k k (Ok tt)
  unfolding layers_pushed
  none_left [] left link k is = done
  none_left (digest ∷ named) left link k is = subst (λ xs. Meets is_memory (layers_pushed s image (digest ∷ named) xs) link link k k (Ok tt)) (sym is) done

  pub none_named : (named : List (List ℕ)) (left : List ImageLayer) (link : Link) (k : AuthState) → named ≡ [] → Meets is_memory (layers_pushed s image named left) link link k k (Ok tt)
  unfolding layers_pushed
  none_named [] left link k is = done
  none_named (digest ∷ named) left link k is = absurd (cc is)

pub one_less : (left others : List ImageLayer) (layer : ImageLayer) → left ≡ layer ∷ others → length others < length left
one_less left others layer is = omega (arith, ap length is)
