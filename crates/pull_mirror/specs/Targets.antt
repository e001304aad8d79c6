-- Where an image can be copied to.
use Rattle.std.specs.Prelude.{Bool, ◌&&◌, is_some, is_none}
use Rattle.oci_names.specs.Reference.{tag_of, digest_of, reads_back}
use Rattle.oci_names.specs.declared.reference.Reference.{Reference}

-- a tag and no digest, and the reference round-trips
abbrev pub is_target : Reference → Bool
is_target r = is_none (digest_of r) && is_some (tag_of r) && reads_back r
