-- The refusal of a text.
use Rattle.std.specs.Prelude.{◌≡◌, Result, Ok, Err, ⊤}
use Rattle.oci_names.specs.declared.parse_error.ParseError.{ParseError}
use Rattle.oci_names.specs.declared.parse_error.ParseError.TheVariants.{NameEmpty, ReferenceInvalidFormat, WantOfMemory}

-- the refusal is the expected result, or memory ran out
abbrev pub Refuses : {A : Type 0} → ParseError → Result A ParseError → Type 0
Refuses WantOfMemory expected = ⊤
Refuses e expected = expected ≡ Err e

-- a string that parses, or is refused for its length or its digest, is in the grammar; one that is refused as empty
-- or for its form is not
abbrev pub OfGrammar : {A : Type 0} → Result A ParseError → Type 0 → Type 0
OfGrammar (Ok r) inside = inside
OfGrammar (Err NameEmpty) inside = ¬ inside
OfGrammar (Err ReferenceInvalidFormat) inside = ¬ inside
OfGrammar (Err WantOfMemory) inside = ⊤
OfGrammar (Err e) inside = inside
