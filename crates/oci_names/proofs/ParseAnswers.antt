-- Which results are possible for texts in the grammar.
use Rattle.std.proofs.Common.{◌≡◌, ◌==◌, not, ℕ, true, false, if◌then◌else◌, List, [], ◌∷◌, Option, Some, None, Result, Ok, Err, IfOk, IfErr, length, nat_lt, refl, sym, ◌∙◌, subst, true≢false, arith, eqb-true}
use Rattle.std.specs.Option.{option_map_or}
use Rattle.oci_names.proofs.PartWords.{in_grammar, is_in_grammar}
use Rattle.oci_names.specs.declared.parse_error.ParseError.{ParseError}
use Rattle.oci_names.specs.declared.parse_error.ParseError.TheVariants.{NameEmpty, ReferenceInvalidFormat, NameTooLong, DigestUnsupported, DigestInvalidLength, WantOfMemory}
use Rattle.oci_names.specs.declared.reference.Reference.{Reference}
use Rattle.oci_names.specs.Algorithms.{algorithm_of, digits_in}
use Rattle.oci_names.specs.Grammar.{before, after}
use Rattle.oci_names.specs.Parts.{Parts, parts_of, is_grammatical, repository_named, digest_refusal}
use Rattle.oci_names.specs.Reference.{reference_of, reference_named}
use Rattle.oci_names.specs.Refusals.{Refuses, OfGrammar}
use Rattle.oci_names.specs.Words.{InGrammar}

abbrev refused : Option ParseError → Reference → Result Reference ParseError
refused o r = option_map_or (λ e. Err e) o (Ok r)

by_digest : (o : Option (List ℕ)) (r : Reference) (inside : Type 0) → inside → OfGrammar (refused (option_map_or digest_refusal o None) r) inside
by_digest None r inside g = g
by_digest (Some d) r inside g =
    elim (algorithm_of (before 58 d)) as (λ o. OfGrammar (refused (option_map_or (λ a. if option_map_or length (after 58 d) 0 == digits_in a then None else Some DigestInvalidLength) o (Some DigestUnsupported)) r) inside) [
      | None ↦ g
      | Some a ↦ elim (option_map_or length (after 58 d) 0 == digits_in a) as (λ b. OfGrammar (refused (if b then None else Some DigestInvalidLength) r) inside) [ true ↦ g | false ↦ g ]
    ]

no_empty : (text : List ℕ) → (length text == 0) ≡ true → InGrammar (parts_of text) → ⊥
no_empty [] e g = true≢false (sym (is_in_grammar (parts_of []) g))
no_empty (x ∷ xs) e g = absurd (omega (arith, eqb-true (length (x ∷ xs)) 0 e))

by_parts : (p : Parts) → OfGrammar (refused (if not (is_grammatical p) then Some ReferenceInvalidFormat else (if nat_lt 255 (length (repository_named p)) then Some NameTooLong else option_map_or digest_refusal p.digest None)) (reference_named p)) (InGrammar p)
by_parts p =
    elim (is_grammatical p) as (λ b. is_grammatical p ≡ b → OfGrammar (refused (if not b then Some ReferenceInvalidFormat else (if nat_lt 255 (length (repository_named p)) then Some NameTooLong else option_map_or digest_refusal p.digest None)) (reference_named p)) (InGrammar p)) [
      | true ↦ λ e. elim (nat_lt 255 (length (repository_named p))) as (λ b. OfGrammar (refused (if b then Some NameTooLong else option_map_or digest_refusal p.digest None) (reference_named p)) (InGrammar p)) [
        | true ↦ in_grammar p e
        | false ↦ by_digest p.digest (reference_named p) (InGrammar p) (in_grammar p e)
      ]
      | false ↦ λ e. λ g. true≢false (sym (is_in_grammar p g) ∙ e)
    ] refl

of_reading : (text : List ℕ) → OfGrammar (reference_of text) (InGrammar (parts_of text))
of_reading text =
    let p = parts_of text in
    elim (length text == 0) as (λ b. (length text == 0) ≡ b → OfGrammar (if b then Err NameEmpty else refused (if not (is_grammatical p) then Some ReferenceInvalidFormat else (if nat_lt 255 (length (repository_named p)) then Some NameTooLong else option_map_or digest_refusal p.digest None)) (reference_named p)) (InGrammar p)) [
      | true ↦ λ e. no_empty text e
      | false ↦ λ e. by_parts p
    ] refl

handed_on : (inside : Type 0) (said r : Result Reference ParseError) → IfOk r (λ x. said ≡ Ok x) → IfErr r (λ e. Refuses e said) → OfGrammar said inside → OfGrammar r inside
handed_on inside said (Ok x) ok err g = let P : Result Reference ParseError → Type 0 = λ a. OfGrammar a inside in subst P ok g
handed_on inside said (Err NameEmpty) ok err g = let P : Result Reference ParseError → Type 0 = λ a. OfGrammar a inside in subst P err g
handed_on inside said (Err ReferenceInvalidFormat) ok err g = let P : Result Reference ParseError → Type 0 = λ a. OfGrammar a inside in subst P err g
handed_on inside said (Err NameTooLong) ok err g = let P : Result Reference ParseError → Type 0 = λ a. OfGrammar a inside in subst P err g
handed_on inside said (Err DigestUnsupported) ok err g = let P : Result Reference ParseError → Type 0 = λ a. OfGrammar a inside in subst P err g
handed_on inside said (Err DigestInvalidLength) ok err g = let P : Result Reference ParseError → Type 0 = λ a. OfGrammar a inside in subst P err g
handed_on inside said (Err WantOfMemory) ok err g = tt

pub of_grammar : (text : List ℕ) (r : Result Reference ParseError) → IfOk r (λ x. reference_of text ≡ Ok x) → IfErr r (λ e. Refuses e (reference_of text)) → OfGrammar r (InGrammar (parts_of text))
of_grammar text r ok err = handed_on (InGrammar (parts_of text)) (reference_of text) r ok err (of_reading text)
