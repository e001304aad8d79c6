use Rattle.std.specs.Prelude.{codes}
use Rattle.serde_json.specs.Find.{get}
use Rattle.serde_json.specs.View.{view}
use Rattle.json_tables.specs.Bytes.{bytes_of}
use Rattle.json_tables.specs.Reading.{text_of, list_of, pair_of}
use Rattle.live_link.proofs.HeaderReads.{headers_read}
use Rattle.live_link.proofs.replies.read_headers.Goals as goal

pub returns-in-Some : goal.returns-in-Some
returns-in-Some c = headers_read (get (codes "headers") (view c.args.value.now)) (list_of (pair_of text_of bytes_of)) _ _ _ _ c.in_ok-pairs.ensures c.as_slice.ensures c.in_ok-headers.ensures c.in-Some.is

pub returns : goal.returns
returns c = headers_read (get (codes "headers") (view c.args.value.now)) (list_of (pair_of text_of bytes_of)) _ _ _ _ c.in_ok-pairs.ensures c.as_slice.ensures c.in_ok-headers.ensures c.in-None.is
