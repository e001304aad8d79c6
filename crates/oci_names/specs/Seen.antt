-- The values that the parts of a text point to.
use Rattle.std.specs.Option.{option_copied}
use Rattle.oci_names.specs.declared.parts.Parts as declared
use Rattle.oci_names.specs.Parts.{Parts}

abbrev pub seen : declared.Parts → Parts
seen p = record { domain = p.domain.now; path = p.path.now; tag = option_copied p.tag; digest = option_copied p.digest }
