-- A body is validated if and only if each given digest names it.
use Rattle.std.proofs.Common.{◌≡◌, ℕ, ◌++◌, Bool, true, false, List, length, bytes_eq, if◌then◌else◌, Option, Some, None, Result, Ok, Err, IfOk, IfErr, MatchBool, codes, refl, sym, ap, ◌∙◌, subst, true≢false, arith}
use Rattle.std.proofs.lemmas.Slice.Eq.{bytes_eq-Decides}
use Rattle.hex.specs.Hex.{encode_lower}
use Rattle.oci_digests.specs.Checks.{and_then, checked_by, checked, both_checked, both_validated, validated}
use Rattle.json_values.specs.Refusals.{Matches}
use Rattle.oci_digests.specs.Error.{is_memory}
use Rattle.oci_digests.specs.Hashes.{hash_of}
use Rattle.oci_digests.specs.Names.{Names, digest_text}
use Rattle.oci_digests.specs.Checks.{parts_of, named_algorithm}
use Rattle.oci_digests.specs.Validates.{Validates}
use Rattle.oci_names.specs.declared.algorithm.Algorithm.{Algorithm}
use Rattle.oci_digests.specs.declared.error.DigestError.{DigestError}
use Rattle.oci_digests.proofs.Algorithms.{parts_named, algorithm_named}

chosen : {A : Type 0} (b : Bool) (x y : A) → b ≡ true → (if b then x else y) ≡ x
chosen true x y e = refl
chosen false x y e = absurd (true≢false (sym e))

-- if a text names the body, its check returns the text
checks : (body text : List ℕ) → Names text body → checked body text ≡ Ok text
checks body text n =
    let P : List ℕ → Type 0 = λ t. checked body t ≡ Ok t in
    subst P (sym n.1) (
    ap (λ r. and_then r (λ a. checked_by a body (digest_text n.0 body))) (algorithm_named n.0 (encode_lower (hash_of n.0 body)))
    ∙ chosen (bytes_eq (digest_text n.0 body) (digest_text n.0 body)) _ _ ((bytes_eq-Decides (digest_text n.0 body) (digest_text n.0 body)).1 refl))

ok_is : (a b : List ℕ) → (let r : Result (List ℕ) DigestError = Ok a in r) ≡ Ok b → a ≡ b
ok_is a b e = cc

picked : (b : Bool) (text answer : List ℕ) (x : DigestError) → (if b then Ok text else Err x) ≡ Ok answer → (b ≡ true) × (text ≡ answer)
picked true text answer x e = (refl, ok_is text answer e)
picked false text answer x e = cc

ok_before : {A B : Type 0} (r : Result A DigestError) (f : A → Result B DigestError) (b : B) → and_then r f ≡ Ok b → (a : A) × (r ≡ Ok a) × (f a ≡ Ok b)
ok_before (Ok a) f b e = (a, refl, e)
ok_before (Err x) f b e = cc

-- if a check returns a text, it names the body
names_it : (body text answer : List ℕ) → checked body text ≡ Ok answer → Names text body × (text ≡ answer)
names_it body text answer e =
    let found = ok_before (named_algorithm text) (λ a. checked_by a body text) answer e in
    let two = picked (bytes_eq text (digest_text found.0 body)) text answer _ found.2 in
    ((found.0, (bytes_eq-Decides text (digest_text found.0 body)).0 two.0), two.1)

whole : (o p : Option (List ℕ × List ℕ)) (x : Result (List ℕ) DigestError) (text : List ℕ) → both_validated o p x ≡ Ok text → x ≡ Ok text
whole None p x text e = cc
whole (Some h) None x text e = cc
whole (Some h) (Some r) x text e = e

both_name : (b : Bool) (body header reference text : List ℕ) → (b ≡ true → header ≡ reference)
    → (if b then checked body header else and_then (checked body reference) (λ _. checked body header)) ≡ Ok text
    → Names header body × Names reference body × (header ≡ text)
both_name true body header reference text same e =
    let h = names_it body header text e in
    let P : List ℕ → Type 0 = λ t. Names t body in
    (h.0, subst P (same refl) h.0, h.1)
both_name false body header reference text same e =
    let r = ok_before (checked body reference) (λ _. checked body header) text e in
    let h = names_it body header text r.2 in
    (h.0, (names_it body reference r.0 r.1).0, h.1)

pub validates : (body : List ℕ) (header reference : Option (List ℕ)) (text : List ℕ) → validated body header reference ≡ Ok text → Validates body header reference text
validates body None None text e = record { header_names = tt; reference_names = tt; answer = sym (ok_is _ text e) }
validates body (Some h) None text e =
    let n = names_it body h text e in
    record { header_names = n.0; reference_names = tt; answer = sym n.1 }
validates body None (Some r) text e =
    let n = names_it body r text e in
    record { header_names = tt; reference_names = n.0; answer = sym n.1 }
validates body (Some h) (Some r) text e =
    let n = both_name (bytes_eq h r) body h r text (bytes_eq-Decides h r).0 (whole (parts_of h) (parts_of r) (both_checked body h r) text e) in
    record { header_names = n.0; reference_names = n.1; answer = sym n.2 }

has_parts : (body text : List ℕ) → Names text body → (p : List ℕ × List ℕ) × (parts_of text ≡ Some p)
has_parts body text n = (_, ap parts_of n.1 ∙ parts_named n.0 (encode_lower (hash_of n.0 body)))

both_pass : (b : Bool) (body header reference : List ℕ) → Names header body → Names reference body
    → (if b then checked body header else and_then (checked body reference) (λ _. checked body header)) ≡ Ok header
both_pass true body header reference h r = checks body header h
both_pass false body header reference h r = ap (λ x. and_then x (λ _. checked body header)) (checks body reference r) ∙ checks body header h

pub is_validated : (body : List ℕ) (header reference : Option (List ℕ)) (text : List ℕ) → Validates body header reference text → validated body header reference ≡ Ok text
is_validated body None None text v = ap Ok (sym v.answer)
is_validated body (Some h) None text v = checks body h v.header_names ∙ ap Ok (sym v.answer)
is_validated body None (Some r) text v = checks body r v.reference_names ∙ ap Ok (sym v.answer)
is_validated body (Some h) (Some r) text v =
    let hp = has_parts body h v.header_names in
    let rp = has_parts body r v.reference_names in
    ap (λ o. both_validated o (parts_of r) (both_checked body h r)) hp.1
    ∙ ap (λ o. both_validated (Some hp.0) o (both_checked body h r)) rp.1
    ∙ both_pass (bytes_eq h r) body h r v.header_names v.reference_names
    ∙ ap Ok (sym v.answer)

pub ok_of : (body : List ℕ) (header reference : Option (List ℕ)) (result : Result (List ℕ) DigestError) → Matches is_memory result (validated body header reference) → IfOk result (Validates body header reference)
ok_of body header reference (Ok text) says = validates body header reference text says
ok_of body header reference (Err e) says = tt

told : (b : Bool) (P : Type 0) → MatchBool b (Unit {0}) P → b ≡ false → P
told true P m e = absurd (true≢false e)
told false P m e = m

pub err_of : (body : List ℕ) (header reference : Option (List ℕ)) (result : Result (List ℕ) DigestError) → Matches is_memory result (validated body header reference)
    → IfErr result (λ e. is_memory e ≡ false → (text : List ℕ) → Validates body header reference text → ⊥)
err_of body header reference (Ok text) says = tt
err_of body header reference (Err e) says = λ not_memory text v.
    let x : Ok text ≡ Err e = sym (is_validated body header reference text v) ∙ told (is_memory e) _ says not_memory in
    cc
