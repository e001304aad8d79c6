-- The exit statuses of the program.
use Rattle.std.specs.Prelude.{ℕ}
use Rattle.byte_streams.specs.declared.reading.ReadRefusal.{ReadRefusal}
use Rattle.byte_streams.specs.declared.reading.ReadRefusal.TheVariants as read
use Rattle.pull_run.specs.declared.status.Status.{Status}
use Rattle.pull_run.specs.declared.status.Status.TheVariants as status

-- the number of a status
abbrev pub code_of : Status → ℕ
code_of status.Done = 0
code_of status.Refused = 1
code_of status.Usage = 2
code_of status.UnreadableInput = 3
code_of status.SourceFault = 4
code_of status.SinkFault = 5
code_of status.WantOfMemory = 6
code_of status.TooLong = 7

-- the status if the input was not read to its end
abbrev pub status_of : ReadRefusal → Status
status_of read.TooLong = status.TooLong
status_of read.SourceFault = status.SourceFault
status_of read.WantOfMemory = status.WantOfMemory
