-- The responses of a case's registry: recorded answers, or those of a shelf.
use Rattle.std.specs.Prelude.{Option, Some, None, option_map, IsTrue, codes}
use Rattle.serde_json.specs.Data.{Data}
use Rattle.serde_json.specs.Find.{get}
use Rattle.json_tables.specs.Reading.{list_of}
use Rattle.oci_transport.specs.Link.{Answering}
use Rattle.oci_transport.specs.Recorded as recorded
use Rattle.oci_link.specs.Leads.{redirects_lead}
use Rattle.oci_link.specs.State as shelf
use Rattle.recorded_case.specs.Answer.{answer_of}
use Rattle.recorded_case.specs.Shelf.{shelf_of}
use Rattle.recorded_case.specs.declared.registry.Registry.{Registry}
use Rattle.recorded_case.specs.declared.registry.Registry.TheVariants.{Answers, Shelf}

-- exactly one of the two is present
abbrev pub one_of : Option Data → Option Data → Option Registry
one_of (Some answers) None = option_map Answers (list_of answer_of answers)
one_of None (Some shelf) = option_map Shelf (shelf_of shelf)
one_of (Some answers) (Some shelf) = None
one_of None None = None

-- exactly one of the members `answers` and `shelf`
unfoldable pub registry_of : Data → Option Registry
registry_of d = one_of (get (codes "answers") d) (get (codes "shelf") d)

-- the redirects of a shelf all end
abbrev pub Leads : Registry → Type 0
Leads (Answers answers) = Unit {0}
Leads (Shelf shelf) = IsTrue (redirects_lead shelf)

-- the recorded answers one after another, or the shelf's response table
abbrev pub answering_by : Registry → Answering
answering_by (Answers answers) = recorded.answering answers
answering_by (Shelf held) = shelf.answering held
