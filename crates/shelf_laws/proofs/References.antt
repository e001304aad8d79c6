-- The parts of a reference whose text parses to it, and that the same holds for others of its repository.
use Rattle.std.specs.Prelude.{bytes_eq, codes, not, nat_lt, is_none, unwrap_or, IfSome, if◌then◌else◌}
use Rattle.std.specs.List.{list_all, list_any}
use Rattle.std.specs.Option.{option_map_or}
use Rattle.std.specs.Char.{is_ascii_hexdigit}
use Rattle.std.proofs.Common.{◌≡◌, inl, inr, ◌*◌, ℕ, zero, suc, Bool, true, false, ◌&&◌, ◌==◌, List, [], ◌∷◌, ◌++◌, length, Option, Some, None, Ok, Err, refl, sym, ap, ◌∙◌, subst, arith, append_assoc, append-nil, length-append}
use Rattle.std.proofs.lemmas.Bool.Decides.{nat_tests}
use Rattle.oci_names.specs.Grammar.{is_hexadecimal, before, after, is_path_letter, is_tag_byte, is_digest}
use Rattle.oci_names.specs.Parts.{Parts, parts_of, domain_in, rest_in, is_domain_part, is_grammatical, registry_named, library_for, repository_named, tag_named, digest_refusal, refusal_of, marked, is_slash}
use Rattle.oci_names.specs.Reference.{reference_named, reference_of, whole_text, resolved_registry, reads_back}
use Rattle.oci_names.specs.Words.{Run, Domain, PathSeparator, PathComponent, Path, Tag, Encoded, InGrammar}
use Rattle.oci_names.specs.declared.parse_error.ParseError.{ParseError}
use Rattle.oci_names.specs.declared.parse_error.ParseError.TheVariants.{NameEmpty, ReferenceInvalidFormat, NameTooLong, DigestInvalidLength}
use Rattle.oci_names.specs.declared.reference.Reference.{Reference}
use Rattle.oci_names.proofs.Cuts.{Lacks, before-Lacks, before-at, after-Lacks, after-at}
use Rattle.oci_names.proofs.PartWords.{domain, encoded, in_grammar, is_in_grammar}
use Rattle.oci_names.proofs.ReadsBack.{reads_back-means, reads_back-from}
use Rattle.oci_digests.proofs.HexDigits.{and_left, and_right, and_both, all_append, all_more, is_lower_digit}
use Rattle.shelf_laws.proofs.PlainNames.{joined_all, domain_slashless}

-- ---- splits

lacks_from : (c : ℕ) (xs : List ℕ) → list_all (λ b. not (b == c)) xs ≡ true → Lacks c xs
lacks_from c [] h i lt is = absurd (omega (arith, lt))
lacks_from c (x ∷ xs) h zero lt is = let other = and_left (not (x == c)) (list_all (λ b. not (b == c)) xs) h in grind (arith, nat_tests, other, is)
lacks_from c (x ∷ xs) h (suc i) lt is = lacks_from c xs (and_right (not (x == c)) (list_all (λ b. not (b == c)) xs) h) i (omega (arith, lt)) is

-- not a colon and not an at sign
abbrev is_name_byte : ℕ → Bool
is_name_byte b = not (b == 58) && not (b == 64)

lacks_colon : (xs : List ℕ) → list_all is_name_byte xs ≡ true → Lacks 58 xs
lacks_colon xs h = lacks_from 58 xs (all_more is_name_byte (λ b. not (b == 58)) xs (λ b k. and_left (not (b == 58)) (not (b == 64)) k) h)

lacks_at : (xs : List ℕ) → list_all is_name_byte xs ≡ true → Lacks 64 xs
lacks_at xs h = lacks_from 64 xs (all_more is_name_byte (λ b. not (b == 64)) xs (λ b k. and_right (not (b == 58)) (not (b == 64)) k) h)

letter_byte : (b : ℕ) → is_path_letter b ≡ true → is_name_byte b ≡ true
letter_byte b h = grind (arith, nat_tests, h)

dash_byte : (b : ℕ) → (b == 45) ≡ true → is_name_byte b ≡ true
dash_byte b h = grind (arith, nat_tests, h)

tag_byte : (b : ℕ) → is_tag_byte b ≡ true → not (b == 64) ≡ true
tag_byte b h = grind (arith, nat_tests, h)

gap_bytes : (t : List ℕ) → PathSeparator t → list_all is_name_byte t ≡ true
gap_bytes t (inl dot) = subst (λ (x : List ℕ). list_all is_name_byte x ≡ true) (sym dot) refl
gap_bytes t (inr (inl one)) = subst (λ (x : List ℕ). list_all is_name_byte x ≡ true) (sym one) refl
gap_bytes t (inr (inr (inl two))) = subst (λ (x : List ℕ). list_all is_name_byte x ≡ true) (sym two) refl
gap_bytes t (inr (inr (inr dashes))) = all_more (λ b. b == 45) is_name_byte t dash_byte dashes.1

path_bytes : (t : List ℕ) → Path t → list_all is_name_byte t ≡ true
path_bytes t path =
    joined_all is_name_byte PathComponent (λ gap. gap ≡ codes "/")
    (joined_all is_name_byte (Run is_path_letter) PathSeparator (λ x run. all_more is_path_letter is_name_byte x letter_byte run.1) gap_bytes)
    (λ gap is. subst (λ (x : List ℕ). list_all is_name_byte x ≡ true) (sym is) refl) t path

tag_lacks : (t : List ℕ) → Tag t → Lacks 64 t
tag_lacks t (first, rest, is, start, few, all) =
    let first_byte : not (first == 64) ≡ true = grind (arith, nat_tests, start) in
    lacks_from 64 t (subst (λ (x : List ℕ). list_all (λ b. not (b == 64)) x ≡ true) (sym is) (and_both (not (first == 64)) (list_all (λ b. not (b == 64)) rest) first_byte (all_more is_tag_byte (λ b. not (b == 64)) rest tag_byte all)))

lacks_both : (c : ℕ) (xs ys : List ℕ) → Lacks c xs → Lacks c ys → Lacks c (xs ++ ys)
lacks_both c [] ys h k i lt = k i lt
lacks_both c (x ∷ xs) ys h k zero lt = h zero (omega arith)
lacks_both c (x ∷ xs) ys h k (suc i) lt = lacks_both c xs ys (λ j l. h (suc j) (omega (arith, l))) k i (omega (arith, lt))

one_lacks : (c b : ℕ) → (b == c) ≡ false → Lacks c (b ∷ [])
one_lacks c b other zero lt is = grind (arith, nat_tests, other, is)
one_lacks c b other (suc i) lt is = absurd (omega (arith, lt))

-- ---- texts

-- the marks after a repository
abbrev marks : Option (List ℕ) → Option (List ℕ) → List ℕ
marks tag digest = marked (codes ":") tag ++ marked (codes "@") digest

text_is : (registry repository : List ℕ) (tag digest : Option (List ℕ)) → registry ++ codes "/" ++ repository ++ marked (codes ":") tag ++ marked (codes "@") digest ≡ registry ++ 47 ∷ (repository ++ marks tag digest)
text_is registry repository tag digest = simp append_assoc

tag_word : (tag digest : Option (List ℕ)) → IfSome tag Tag → IfSome (if is_none tag && is_none digest then Some (codes "latest") else tag) Tag
tag_word None None h = (108, codes "atest", refl, refl, omega arith, refl)
tag_word None (Some d) h = tt
tag_word (Some t) digest h = h

-- the name before a colon or an at sign
name_cut : (repository : List ℕ) (tag digest : Option (List ℕ)) → list_all is_name_byte repository ≡ true → IfSome tag Tag → before 58 (before 64 (repository ++ marks tag digest)) ≡ repository
name_cut repository None None all h = ap (λ (t : List ℕ). before 58 (before 64 t)) (append-nil repository) ∙ ap (before 58) (before-Lacks 64 repository (lacks_at repository all)) ∙ before-Lacks 58 repository (lacks_colon repository all)
name_cut repository None (Some d) all h = ap (before 58) (before-at 64 repository d (lacks_at repository all)) ∙ before-Lacks 58 repository (lacks_colon repository all)
name_cut repository (Some t) None all h =
    let colon = lacks_both 64 (58 ∷ []) t (one_lacks 64 58 refl) (tag_lacks t h) in
    ap (λ (x : List ℕ). before 58 (before 64 (repository ++ 58 ∷ x))) (append-nil t)
    ∙ ap (before 58) (before-Lacks 64 (repository ++ 58 ∷ t) (lacks_both 64 repository (58 ∷ t) (lacks_at repository all) colon)) ∙ before-at 58 repository t (lacks_colon repository all)
name_cut repository (Some t) (Some d) all h =
    let colon = lacks_both 64 (58 ∷ []) t (one_lacks 64 58 refl) (tag_lacks t h) in
    ap (λ (x : List ℕ). before 58 (before 64 x)) (sym (append_assoc repository (58 ∷ t) (64 ∷ d)))
    ∙ ap (before 58) (before-at 64 (repository ++ 58 ∷ t) d (lacks_both 64 repository (58 ∷ t) (lacks_at repository all) colon)) ∙ before-at 58 repository t (lacks_colon repository all)

-- ---- what is parsed

accepted_by : (b : Bool) (o : Option ParseError) (n r : Reference) → (if b then Err NameEmpty else option_map_or (λ e. Err e) o (Ok n)) ≡ Ok r → (o ≡ None) × (n ≡ r)
accepted_by true o n r is = absurd (cc is)
accepted_by false None n r is = (refl, cc is)
accepted_by false (Some e) n r is = absurd (cc is)

record Allowed (g l : Bool) : Type 0 where
  grammar : g ≡ true
  few : l ≡ false

allowed_by : (g l : Bool) (o : Option ParseError) → (if not g then Some ReferenceInvalidFormat else (if l then Some NameTooLong else o)) ≡ None → Allowed g l
allowed_by false l o is = absurd (cc is)
allowed_by true true o is = absurd (cc is)
allowed_by true false o is = record { grammar = refl; few = refl }

-- the parts of a reference whose text parses to it
pub record Spelled (r : Reference) : Type 0 where
  pub no_mirror : r.mirror ≡ None
  pub domain_is : Domain r.registry
  pub part : is_domain_part r.registry ≡ true
  pub own : registry_named r.registry ≡ r.registry
  pub path : Path r.repository
  pub whole : library_for r.registry r.repository ++ r.repository ≡ r.repository
  pub few : nat_lt 255 (length r.repository) ≡ false
  pub tag_is : IfSome r.tag Tag
  pub digest_is : IfSome r.digest Encoded

named_domain : (d : List ℕ) → Domain d → Domain (registry_named d)
named_domain d is = by_test (bytes_eq d (codes "index.docker.io")) where
  by_test : (b : Bool) → Domain (if b then codes "docker.io" else d)
  by_test true = domain (codes "docker.io") refl
  by_test false = is

library_bytes : (b : Bool) → list_all is_name_byte (if b then codes "library/" else []) ≡ true
library_bytes true = refl
library_bytes false = refl

module _ (registry repository : List ℕ) (tag digest : Option (List ℕ)) (slashless : Lacks 47 registry) where
  abbrev text : List ℕ
  text = registry ++ codes "/" ++ repository ++ marked (codes ":") tag ++ marked (codes "@") digest

  front_is : before 47 text ≡ registry
  front_is = ap (before 47) (text_is registry repository tag digest) ∙ before-at 47 registry (repository ++ marks tag digest) slashless

  back_is : after 47 text ≡ Some (repository ++ marks tag digest)
  back_is = ap (after 47) (text_is registry repository tag digest) ∙ after-at 47 registry (repository ++ marks tag digest) slashless

  domain_in_is : domain_in text ≡ (if is_domain_part registry then registry else codes "docker.io")
  domain_in_is =
      ap (λ (o : Option (List ℕ)). option_map_or (λ _. if is_domain_part (before 47 text) then before 47 text else codes "docker.io") o (codes "docker.io")) back_is
      ∙ ap (λ (t : List ℕ). if is_domain_part t then t else codes "docker.io") front_is

  rest_in_is : is_domain_part registry ≡ true → rest_in text ≡ repository ++ marks tag digest
  rest_in_is part =
      ap (λ (o : Option (List ℕ)). option_map_or (λ rest. if is_domain_part (before 47 text) then rest else text) o text) back_is
      ∙ ap (λ (t : List ℕ). if is_domain_part t then repository ++ marks tag digest else text) front_is
      ∙ ap (λ b. if b then repository ++ marks tag digest else text) part

chosen : (registry domain_text : List ℕ) → domain_text ≡ (if is_domain_part registry then registry else codes "docker.io") → registry ≡ registry_named domain_text → (is_domain_part registry ≡ true) × (domain_text ≡ registry)
chosen registry domain_text is named = by_test (is_domain_part registry) refl where
  hub : is_domain_part registry ≡ false → registry ≡ codes "docker.io"
  hub other = named ∙ ap registry_named (is ∙ ap (λ b. if b then registry else codes "docker.io") other)

  by_test : (b : Bool) → is_domain_part registry ≡ b → (is_domain_part registry ≡ true) × (domain_text ≡ registry)
  by_test true part = (part, is ∙ ap (λ b. if b then registry else codes "docker.io") part)
  by_test false other = let part : is_domain_part registry ≡ true = ap is_domain_part (hub other) in (part, is ∙ ap (λ b. if b then registry else codes "docker.io") part)

-- parts that were parsed as the reference
record Read (p : Parts) (r : Reference) : Type 0 where
  grammar : InGrammar p
  few : nat_lt 255 (length (repository_named p)) ≡ false
  is : reference_named p ≡ r

read_from : (p : Parts) (r : Reference) → refusal_of p ≡ None → reference_named p ≡ r → Read p r
read_from p r none is =
    let allowed = allowed_by (is_grammatical p) (nat_lt 255 (length (repository_named p))) (option_map_or digest_refusal p.digest None) none in
    record { grammar = in_grammar p allowed.grammar; few = allowed.few; is = is }

spelled_by : (p : Parts) (r : Reference) → Read p r → p.domain ≡ domain_in (whole_text r) → p.path ≡ before 58 (before 64 (rest_in (whole_text r))) → Spelled r
spelled_by p r read domain_of path_of =
    let registry : r.registry ≡ registry_named p.domain = sym (ap (λ (x : Reference). x.registry) read.is) in
    let repository : r.repository ≡ repository_named p = sym (ap (λ (x : Reference). x.repository) read.is) in
    let tag : r.tag ≡ tag_named p = sym (ap (λ (x : Reference). x.tag) read.is) in
    let domain_word : Domain r.registry = subst Domain (sym registry) (named_domain p.domain read.grammar.domain) in
    let slashless : Lacks 47 r.registry = lacks_from 47 r.registry (domain_slashless r.registry domain_word) in
    let choice = chosen r.registry p.domain (domain_of ∙ domain_in_is r.registry r.repository r.tag r.digest slashless) registry in
    let tag_of : IfSome r.tag Tag = subst (λ o. IfSome o Tag) (sym tag) (tag_word p.tag p.digest read.grammar.tag) in
    let bytes : list_all is_name_byte r.repository ≡ true = subst (λ (x : List ℕ). list_all is_name_byte x ≡ true) (sym repository) (all_append is_name_byte (library_for (registry_named p.domain) p.path) p.path (library_bytes (bytes_eq (registry_named p.domain) (codes "docker.io") && not (list_any is_slash p.path))) (path_bytes p.path read.grammar.path)) in
    let path : p.path ≡ r.repository = path_of ∙ ap (λ (x : List ℕ). before 58 (before 64 x)) (rest_in_is r.registry r.repository r.tag r.digest slashless choice.0) ∙ name_cut r.repository r.tag r.digest bytes tag_of in
    let back : r.repository ≡ p.path = sym path in
    record {
      no_mirror = sym (ap (λ (x : Reference). x.mirror) read.is);
      domain_is = domain_word;
      part = choice.0;
      own = ap registry_named (sym choice.1) ∙ sym registry;
      path = subst Path path read.grammar.path;
      whole = (λ i. library_for (registry i) (back i) ++ back i) ∙ sym repository;
      few = ap (λ (x : List ℕ). nat_lt 255 (length x)) repository ∙ read.few;
      tag_is = tag_of;
      digest_is = subst (λ o. IfSome o Encoded) (ap (λ (x : Reference). x.digest) read.is) read.grammar.digest;
    }

pub spelled : (r : Reference) → reads_back r ≡ true → Spelled r
spelled r back =
    let is = accepted_by (length (whole_text r) == 0) (refusal_of (parts_of (whole_text r))) (reference_named (parts_of (whole_text r))) r (reads_back-means r back) in
    spelled_by (parts_of (whole_text r)) r (read_from (parts_of (whole_text r)) r is.0 is.1) refl refl

-- the registry that is requested is a domain too
pub resolved_domain : (r : Reference) → Spelled r → Domain (resolved_registry r)
resolved_domain r h = subst (λ (m : Option (List ℕ)). Domain (unwrap_or m (if bytes_eq r.registry (codes "docker.io") then codes "index.docker.io" else r.registry))) (sym h.no_mirror) (by_test (bytes_eq r.registry (codes "docker.io"))) where
  by_test : (b : Bool) → Domain (if b then codes "index.docker.io" else r.registry)
  by_test true = domain (codes "index.docker.io") refl
  by_test false = h.domain_is

-- ---- others of its repository

not_empty : (xs ys : List ℕ) → (length (xs ++ 47 ∷ ys) == 0) ≡ false
not_empty xs ys = let len = length-append xs (47 ∷ ys) in grind (arith, nat_tests, len)

made_of : (xs : List ℕ) (p : Parts) (n : Reference) → parts_of xs ≡ p → (length xs == 0) ≡ false → refusal_of p ≡ None → reference_named p ≡ n → reference_of xs ≡ Ok n
made_of xs p n parts some allowed is =
    ap (λ b. if b then Err NameEmpty else option_map_or (λ e. Err e) (refusal_of (parts_of xs)) (Ok (reference_named (parts_of xs)))) some
    ∙ ap (λ (q : Parts). option_map_or (λ e. Err e) (refusal_of q) (Ok (reference_named q))) parts
    ∙ ap (λ (o : Option ParseError). option_map_or (λ e. Err e) o (Ok (reference_named p))) allowed ∙ ap Ok is

no_refusal : (g l : Bool) (o : Option ParseError) → g ≡ true → l ≡ false → o ≡ None → (if not g then Some ReferenceInvalidFormat else (if l then Some NameTooLong else o)) ≡ None
no_refusal true false o g l none = none
no_refusal true true o g l none = absurd (cc l)
no_refusal false l o g few none = absurd (cc g)

module _ (r : Reference) (h : Spelled r) where
  slashless_is : Lacks 47 r.registry
  slashless_is = lacks_from 47 r.registry (domain_slashless r.registry h.domain_is)

  -- by a tag
  abbrev tagged : List ℕ → Reference
  tagged t = record { registry = r.registry; mirror = None; repository = r.repository; tag = Some t; digest = None }

  abbrev tag_parts : List ℕ → Parts
  tag_parts t = record { domain = r.registry; path = r.repository; tag = Some t; digest = None }

  all_bytes : list_all is_name_byte r.repository ≡ true
  all_bytes = path_bytes r.repository h.path

  domain_found : (tag digest : Option (List ℕ)) → domain_in (text r.registry r.repository tag digest slashless_is) ≡ r.registry
  domain_found tag digest = domain_in_is r.registry r.repository tag digest slashless_is ∙ ap (λ b. if b then r.registry else codes "docker.io") h.part

  named_whole : (tag digest : Option (List ℕ)) → repository_named (record { domain = r.registry; path = r.repository; tag = tag; digest = digest }) ≡ r.repository
  named_whole tag digest = ap (λ (x : List ℕ). library_for x r.repository ++ r.repository) h.own ∙ h.whole

  tag_read : (t : List ℕ) → Tag t → parts_of (whole_text (tagged t)) ≡ tag_parts t
  tag_read t is =
      let rest = rest_in_is r.registry r.repository (Some t) None slashless_is h.part ∙ ap (λ (x : List ℕ). r.repository ++ 58 ∷ x) (append-nil t) in
      let free : Lacks 64 (r.repository ++ 58 ∷ t) = lacks_both 64 r.repository (58 ∷ t) (lacks_at r.repository all_bytes) (lacks_both 64 (58 ∷ []) t (one_lacks 64 58 refl) (tag_lacks t is)) in
      let name = ap (before 64) rest ∙ before-Lacks 64 (r.repository ++ 58 ∷ t) free in
      λ i. record {
        domain = domain_found (Some t) None i;
        path = (ap (before 58) name ∙ before-at 58 r.repository t (lacks_colon r.repository all_bytes)) i;
        tag = (ap (after 58) name ∙ after-at 58 r.repository t (lacks_colon r.repository all_bytes)) i;
        digest = (ap (after 64) rest ∙ after-Lacks 64 (r.repository ++ 58 ∷ t) free) i;
      }

  pub tag_reads_back : (t : List ℕ) → Tag t → reads_back (tagged t) ≡ true
  tag_reads_back t is =
      reads_back-from (tagged t) (made_of (whole_text (tagged t)) (tag_parts t) (tagged t) (tag_read t is)
      (ap (λ (x : List ℕ). length x == 0) (text_is r.registry r.repository (Some t) None) ∙ not_empty r.registry (r.repository ++ marks (Some t) None))
      (no_refusal (is_grammatical (tag_parts t)) (nat_lt 255 (length (repository_named (tag_parts t)))) None (is_in_grammar (tag_parts t) (record { domain = h.domain_is; path = h.path; tag = is; digest = tt })) (ap (λ (x : List ℕ). nat_lt 255 (length x)) (named_whole (Some t) None) ∙ h.few) refl)
      (λ i. record { registry = h.own i; mirror = None; repository = named_whole (Some t) None i; tag = Some t; digest = None }))

  -- by a digest
  abbrev digested : List ℕ → Reference
  digested d = record { registry = r.registry; mirror = None; repository = r.repository; tag = None; digest = Some d }

  abbrev digest_parts : List ℕ → Parts
  digest_parts d = record { domain = r.registry; path = r.repository; tag = None; digest = Some d }

  digest_split : (d : List ℕ) → parts_of (whole_text (digested d)) ≡ digest_parts d
  digest_split d =
      let rest = rest_in_is r.registry r.repository None (Some d) slashless_is h.part in
      let name = ap (before 64) rest ∙ before-at 64 r.repository d (lacks_at r.repository all_bytes) in
      λ i. record {
        domain = domain_found None (Some d) i;
        path = (ap (before 58) name ∙ before-Lacks 58 r.repository (lacks_colon r.repository all_bytes)) i;
        tag = (ap (after 58) name ∙ after-Lacks 58 r.repository (lacks_colon r.repository all_bytes)) i;
        digest = (ap (after 64) rest ∙ after-at 64 r.repository d (lacks_at r.repository all_bytes)) i;
      }

  pub digest_reads_back : (d : List ℕ) → is_digest d ≡ true → digest_refusal d ≡ None → reads_back (digested d) ≡ true
  digest_reads_back d is known =
      reads_back-from (digested d) (made_of (whole_text (digested d)) (digest_parts d) (digested d) (digest_split d)
      (ap (λ (x : List ℕ). length x == 0) (text_is r.registry r.repository None (Some d)) ∙ not_empty r.registry (r.repository ++ marks None (Some d)))
      (no_refusal (is_grammatical (digest_parts d)) (nat_lt 255 (length (repository_named (digest_parts d)))) (digest_refusal d) (is_in_grammar (digest_parts d) (record { domain = h.domain_is; path = h.path; tag = tt; digest = encoded d is })) (ap (λ (x : List ℕ). nat_lt 255 (length x)) (named_whole None (Some d)) ∙ h.few) known)
      (λ i. record { registry = h.own i; mirror = None; repository = named_whole None (Some d) i; tag = None; digest = Some d }))
