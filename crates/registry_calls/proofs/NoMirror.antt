-- A reference that is parsed from a text has no mirror.
use Rattle.std.proofs.Common.{◌≡◌, Bool, true, false, ℕ, List, Option, Some, None, Result, Ok, Err, sym, ap}
use Rattle.std.specs.Prelude.{if◌then◌else◌, length, ◌==◌}
use Rattle.std.specs.Option.{option_map_or}
use Rattle.oci_names.specs.declared.parse_error.ParseError.{ParseError}
use Rattle.oci_names.specs.declared.parse_error.ParseError.TheVariants.{NameEmpty}
use Rattle.oci_names.specs.declared.reference.Reference.{Reference}
use Rattle.oci_names.specs.Parts.{Parts, parts_of, refusal_of}
use Rattle.oci_names.specs.Reference.{reference_of, reference_named, mirror_of}

abbrev mirror_in : Result Reference ParseError → Option (List ℕ)
mirror_in (Ok r) = mirror_of r
mirror_in (Err e) = None

by_case : (b : Bool) (o : Option ParseError) (p : Parts) (r : Reference) → (if b then Err NameEmpty else option_map_or (λ e. Err e) o (Ok (reference_named p))) ≡ Ok r → mirror_of r ≡ None
by_case true o p r h = absurd (cc h)
by_case false (Some e) p r h = absurd (cc h)
by_case false None p r h = sym (ap mirror_in h)

pub no_mirror : (text : List ℕ) (r : Reference) → reference_of text ≡ Ok r → mirror_of r ≡ None
no_mirror text r h = by_case (length text == 0) (refusal_of (parts_of text)) (parts_of text) r h
