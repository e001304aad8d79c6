-- One body, hashed for the digests in a header and in a descriptor.
use Rattle.std.specs.Prelude.{◌≡◌, ℕ, List, Option, Some, None, option_map}
use Rattle.oci_digests.specs.Holds.{Holds}
use Rattle.oci_digests.specs.Names.{digest_text}
use Rattle.oci_digests.specs.declared.both.Digesters.{Digesters}
use Rattle.oci_digests.specs.declared.both.DigestTexts.{DigestTexts}
use Rattle.oci_digests.specs.declared.both.Given.{Given}
use Rattle.oci_digests.specs.declared.both.Given.TheVariants.{Absent, Shared, Other}
use Rattle.oci_names.specs.declared.algorithm.Algorithm.{Algorithm}

-- no algorithm is given, or it is the descriptor's, or there is a digester of it that has hashed these bytes
abbrev pub GivenHolds : Given → Option Algorithm → Algorithm → List ℕ → Type 0
GivenHolds Absent None own m = Unit {0}
GivenHolds Shared (Some given) own m = given ≡ own
GivenHolds (Other d) (Some given) own m = Holds d given m
GivenHolds d given own m = ⊥

-- the digesters have these algorithms, and have hashed these bytes
pub record BothHold (ds : Digesters) (given : Option Algorithm) (own : Algorithm) (m : List ℕ) : Type 0 where
  pub given_holds : GivenHolds ds.given given own m
  pub own_holds : Holds ds.own own m

-- the digest text of the bytes by the header's algorithm, if there is one
abbrev pub given_text : Option Algorithm → List ℕ → Option (List ℕ)
given_text given m = option_map (λ a. digest_text a m) given

-- the digest texts of the bytes by both algorithms
abbrev pub texts_of : Option Algorithm → Algorithm → List ℕ → DigestTexts
texts_of given own m = record { given = given_text given m; own = digest_text own m }
