-- The draft that a state represents.
use Rattle.std.specs.Prelude.{map, reverse, string_bytes}
use Rattle.json_events.specs.declared.state.Container.{Container}
use Rattle.json_events.specs.declared.state.State.{State}
use Rattle.json_events.specs.Drafts.{Level, Draft}

abbrev pub level_of : Container → Level
level_of c = record {
  spot = c.spot;
  held = c.held;
  begun = c.begun;
  members = c.members.keys;
  name = string_bytes c.name;
  around = c.around;
}

abbrev pub draft_of : State → Draft
draft_of s = record { text = s.text; inner = level_of s.inner; outer = reverse (map level_of s.outer.items) }
