-- Digests that are requested once.
use Rattle.std.proofs.Common.{◌≡◌, ◌||◌, ◌<◌, ◌+◌, ℕ, Bool, true, false, List, [], ◌∷◌, ◌++◌, length, take, get_or, Option, is_some, bytes_eq, refl, sym, ap, subst, ◌∙◌, append_assoc, append-nil}
use Rattle.std.specs.FinMap.{FinMap, insert, get, contains_key, empty, get-insert, get-empty}
use Rattle.std.specs.Ordering.{eq_by_cmp}
use Rattle.std.specs.Cmp.Lexicographic.{texts_ties, nat_list_cmp_total}
use Rattle.json_values.specs.Places.{by_bytes}
use Rattle.oci_manifests.specs.declared.descriptor.OciDescriptor.{OciDescriptor}
use Rattle.pull_mirror.specs.DocumentPlans.{AddsDigest, AreAsked}
use Rattle.pull_mirror.specs.DocumentPushes.{layer_digests, not_named_before, unless_named}
use Rattle.pull_mirror.specs.Pushes.{is_among}
use Rattle.pull_mirror.specs.declared.documents.AskedBlobs.{AskedBlobs}
use Rattle.pull_mirror.proofs.Pushing.{next_item}
use Rattle.pull_mirror.proofs.Repeats.{among_more, among_still, some_or}

-- what is left of one more digest, after those in the list and these
one_more : (before ds : List (List ℕ)) (d : List ℕ) → not_named_before before (ds ++ d ∷ []) ≡ not_named_before before ds ++ unless_named (is_among d (before ++ ds)) d
one_more before [] d = append-nil (unless_named (is_among d before) d) ∙ ap (λ xs. unless_named (is_among d xs) d) (sym (append-nil before))
one_more before (e ∷ ds) d =
    let first = unless_named (is_among e before) e in
    let after = before ++ e ∷ [] in
    ap (λ rest. first ++ rest) (one_more after ds d)
    ∙ sym (append_assoc first (not_named_before after ds) (unless_named (is_among d (after ++ ds)) d))
    ∙ ap (λ xs. (first ++ not_named_before after ds) ++ unless_named (is_among d xs) d) (append_assoc before (e ∷ []) ds)

pub asked_none : (a : AskedBlobs) → a.digests ≡ [] → a.seen ≡ empty → AreAsked [] a
asked_none a none unseen = record { asked = none; seen = λ digest. ap (λ s. contains_key s digest) unseen ∙ ap is_some (get-empty by_bytes digest) }

-- a digest that is requested already
pub adds_none : (digest : List ℕ) (a : AskedBlobs) → contains_key a.seen digest ≡ true → AddsDigest digest a a
adds_none digest a there digests h =
    let before : is_among digest digests ≡ true = sym (h.seen digest) ∙ there in
    record {
      asked = h.asked ∙ sym (one_more [] digests digest ∙ ap (λ b. not_named_before [] digests ++ unless_named b digest) before ∙ append-nil (not_named_before [] digests));
      seen = λ other. h.seen other ∙ sym (among_still other digests digest before);
    }

pub adds_one : (digest : List ℕ) (old new : AskedBlobs) (copy : List ℕ) → contains_key old.seen digest ≡ false → copy ≡ digest → new.digests ≡ old.digests ++ copy ∷ [] → new.seen ≡ insert old.seen digest tt → AddsDigest digest old new
adds_one digest old new copy unseen is pushed seen digests h =
    let before : is_among digest digests ≡ false = sym (h.seen digest) ∙ unseen in
    record {
      asked = pushed ∙ ap (λ d. old.digests ++ d ∷ []) is ∙ ap (λ ds. ds ++ digest ∷ []) h.asked ∙ sym (one_more [] digests digest ∙ ap (λ b. not_named_before [] digests ++ unless_named b digest) before);
      seen = λ other.
          ap (λ s. contains_key s other) seen ∙ ap is_some (get-insert nat_list_cmp_total old.seen digest tt other) ∙ some_or (eq_by_cmp by_bytes other digest) (get old.seen other)
          ∙ ap (λ b. is_some (get old.seen other) || b) (sym (texts_ties other digest))
          ∙ ap (λ b. b || bytes_eq other digest) (h.seen other)
          ∙ sym (among_more other digests digest);
    }

-- ---- layers

more_layers : (xs ys : List OciDescriptor) → layer_digests (xs ++ ys) ≡ layer_digests xs ++ layer_digests ys
more_layers [] ys = refl
more_layers (x ∷ xs) ys = ap (λ ds. x.digest ∷ ds) (more_layers xs ys)

pub next_layer : (xs : List OciDescriptor) (i : ℕ) (x : OciDescriptor) (a b : AskedBlobs) → i < length xs → x ≡ get_or xs i x → AreAsked (layer_digests (take i xs)) a → AddsDigest x.digest a b → AreAsked (layer_digests (take (i + 1) xs)) b
next_layer xs i x a b at is h adds = subst (λ ds. AreAsked ds b) (sym (ap layer_digests (next_item xs i x at is) ∙ more_layers (take i xs) (x ∷ []))) (adds (layer_digests (take i xs)) h)
