use Rattle.oci_link.proofs.PlainPathReads.{plain_paths_read as law}
use Rattle.oci_link.proofs.plain_paths.plain_paths_read.Goals as goal

pub returns : goal.returns
returns c = law c.args.registry_url.now c.as_str-text.ensures.valid
