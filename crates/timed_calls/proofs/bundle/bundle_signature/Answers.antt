use Rattle.timed_calls.proofs.bundle.bundle_signature.Goals as goal

pub returns : goal.returns
returns c =
    c.signature_in.ensures _
    (rw (c.as_str.ensures, c.in_ok-digest.ensures, c.as_slice.ensures, c.new.ensures, c.new-log_keys.ensures, c.new-notes.ensures)
    at c.read_bundle_layer-read.ensures.exact)
