-- The exit status for an input, from what the statuses mean.
use Rattle.std.specs.Io.KnownBytes.{Consumes}
use Rattle.std.proofs.Common.{◌≡◌, ◌≤◌, ◌<◌, inl, inr, ℕ, List, [], ◌∷◌, Option, Some, None, Err, length, option_map, refl, sym, ap, ◌∙◌, arith}
use Rattle.std.specs.Prelude.{◌↔◌}
use Rattle.byte_streams.specs.SinkState.{SinkState}
use Rattle.byte_streams.specs.Source.{SourceState}
use Rattle.byte_streams.specs.Reading.{TakesWithin, TakesMore}
use Rattle.byte_streams.proofs.Springs.{Consumes-none}
use Rattle.pulled_cases.specs.declared.report.Report.{Report}
use Rattle.pull_run.specs.declared.status.Status.{Status}
use Rattle.pull_run.specs.declared.status.Status.TheVariants as status
use Rattle.pull_run.specs.declared.word.Word.{Word}
use Rattle.pull_run.specs.Input.{input_limit, IsInput, IsRead, ReadsInput}
use Rattle.pull_run.specs.Output.{Puts}
use Rattle.pull_run.specs.Command.{command_of}
use Rattle.pull_run.specs.Generated.{Generated, GeneratedStatusMeans}
use Rattle.pull_run.specs.declared.command.Command.{Command}
use Rattle.pull_run.specs.declared.command.Command.TheVariants.{Reads, Generates}
use Rattle.pull_run.specs.Program.{TaskStatusMeans, CommandStatusMeans, StatusMeans, EndsWith, EndsUnread, EndsLong, EndsPast}
use Rattle.pull_run.specs.Status.{code_of}
use Rattle.pull_run.specs.Task.{Task, task_by, task_of}
use Rattle.pull_run.specs.Word.{word_of}
use Rattle.pull_run.proofs.Inputs.{within_limit, read_within, input_is, taken_is}

-- nothing was written, since there was no input
pub no_input : {X : Type 0} (reads : List ℕ → Option X) (Gives : X → Report → Type 0) (s : Status) (old new : SourceState) (before : SinkState) → ReadsInput reads (Err s) old new → TaskStatusMeans (task_by reads Gives) s old new before before
no_input reads Gives status.Done old new before h = absurd h
no_input reads Gives status.Refused old new before h = absurd h
no_input reads Gives status.Usage old new before h = absurd h
no_input reads Gives status.UnreadableInput old new before h = (h, refl)
no_input reads Gives status.SourceFault old new before h = (h, refl)
no_input reads Gives status.SinkFault old new before h = absurd h
no_input reads Gives status.WantOfMemory old new before h = (h.0, h.1, inl refl)
no_input reads Gives status.TooLong old new before h = (h, refl)

-- the output was written as the status says
pub put : {X : Type 0} (reads : List ℕ → Option X) (Gives : X → Report → Type 0) (x : X) (made : Report) (s : Status) (old new : SourceState) (before after : SinkState)
    → IsRead reads x old new → Gives x made → Puts s made before after → TaskStatusMeans (task_by reads Gives) s old new before after
put reads Gives x made status.Done old new before after is gives h = record { made = made; makes = record { input = x; is_read = is; gives = gives }; refused_is = h.0; out = h.1; count = h.2 }
put reads Gives x made status.Refused old new before after is gives h = record { made = made; makes = record { input = x; is_read = is; gives = gives }; refused_is = h.0; out = h.1; count = h.2 }
put reads Gives x made status.Usage old new before after is gives h = absurd h
put reads Gives x made status.UnreadableInput old new before after is gives h = absurd h
put reads Gives x made status.SourceFault old new before after is gives h = absurd h
put reads Gives x made status.SinkFault old new before after is gives h = (record { made = made; makes = record { input = x; is_read = is; gives = gives }; out = h.0 }, h.1)
put reads Gives x made status.WantOfMemory old new before after is gives h = (read_within reads x old new is, is.1.2, inr (record { made = made; makes = record { input = x; is_read = is; gives = gives }; out = h.0 }, h.1))
put reads Gives x made status.TooLong old new before after is gives h = absurd h

-- memory ran out before the writing began
pub none_made : {X : Type 0} (reads : List ℕ → Option X) (Gives : X → Report → Type 0) (x : X) (old new : SourceState) (before : SinkState) → IsRead reads x old new → TaskStatusMeans (task_by reads Gives) status.WantOfMemory old new before before
none_made reads Gives x old new before is = (read_within reads x old new is, is.1.2, inl refl)

none_read : (task : Task) (x : task.Input) (told : List ℕ) (old new : SourceState) → old.left ≡ Some told → task.reads told ≡ None → IsRead task.reads x old new → ⊥
none_read task x told old new is none h = cc (sym none ∙ ap task.reads (sym (input_is h.0 told old new is h.1)) ∙ h.2)

long_input : (bytes told : List ℕ) (old new : SourceState) → old.left ≡ Some told → input_limit < length told → IsInput bytes old new → ⊥
long_input bytes told old new is long h = omega (arith, h.1, long, ap length (input_is bytes told old new is h))

pub past_all : (told : List ℕ) (old new : SourceState) → old.left ≡ Some told → length told ≤ input_limit → TakesMore input_limit old new → ⊥
past_all told old new is short h = by_left old.left new.left is h.1 where
  by_left : (left right : Option (List ℕ)) → left ≡ Some told → Consumes left right h.0 → ⊥
  by_left left None left_is taken = absurd (rw left_is at taken)
  by_left left (Some rest) left_is taken = omega (arith, short, h.2, taken_is left (Some rest) h.0 told rest left_is refl taken)

unread_ends : (task : Task) (s : Status) (told : List ℕ) (old new : SourceState) (before after : SinkState) → old.left ≡ Some told → length told ≤ input_limit → task.reads told ≡ None → TaskStatusMeans task s old new before after → EndsWith 3 (code_of s) old new
unread_ends task status.Done told old new before after is short none h = absurd (none_read task h.makes.input told old new is none h.makes.is_read)
unread_ends task status.Refused told old new before after is short none h = absurd (none_read task h.makes.input told old new is none h.makes.is_read)
unread_ends task status.Usage told old new before after is short none h = absurd h
unread_ends task status.UnreadableInput told old new before after is short none h = inl refl
unread_ends task status.SourceFault told old new before after is short none h = inr (inr (refl, h.0.1))
unread_ends task status.SinkFault told old new before after is short none h = absurd (none_read task h.0.makes.input told old new is none h.0.makes.is_read)
unread_ends task status.WantOfMemory told old new before after is short none h = inr (inl refl)
unread_ends task status.TooLong told old new before after is short none h = absurd (past_all told old new is short h.0.0)

long_ends : (task : Task) (s : Status) (told : List ℕ) (old new : SourceState) (before after : SinkState) → old.left ≡ Some told → input_limit < length told → TaskStatusMeans task s old new before after → EndsWith 7 (code_of s) old new
long_ends task status.Done told old new before after is long h = let r = h.makes.is_read in absurd (long_input r.0 told old new is long r.1)
long_ends task status.Refused told old new before after is long h = let r = h.makes.is_read in absurd (long_input r.0 told old new is long r.1)
long_ends task status.Usage told old new before after is long h = absurd h
long_ends task status.UnreadableInput told old new before after is long h = absurd (long_input h.0.0 told old new is long h.0.1)
long_ends task status.SourceFault told old new before after is long h = inr (inr (refl, h.0.1))
long_ends task status.SinkFault told old new before after is long h = let r = h.0.makes.is_read in absurd (long_input r.0 told old new is long r.1)
long_ends task status.WantOfMemory told old new before after is long h = inr (inl refl)
long_ends task status.TooLong told old new before after is long h = inl refl

-- the bytes read, if the status is not 7
within_past : (code : ℕ) (old new : SourceState) → (code ≡ 7 → ⊥) → TakesWithin input_limit old new → EndsPast code old new
within_past code old new other h told rest left right = ((λ is. absurd (other is)), (λ long. absurd (omega (arith, long, h.2, taken_is old.left new.left h.0 told rest left right h.1))))

more_past : (code : ℕ) (old new : SourceState) → code ≡ 7 → TakesMore input_limit old new → EndsPast code old new
more_past code old new seven h told rest left right = ((λ is. omega (arith, h.2, taken_is old.left new.left h.0 told rest left right h.1)), (λ long. seven))

task_past : (task : Task) (s : Status) (old new : SourceState) (before after : SinkState) → TaskStatusMeans task s old new before after → EndsPast (code_of s) old new
task_past task status.Done old new before after h = within_past 0 old new (λ e. cc e) (read_within task.reads h.makes.input old new h.makes.is_read)
task_past task status.Refused old new before after h = within_past 1 old new (λ e. cc e) (read_within task.reads h.makes.input old new h.makes.is_read)
task_past task status.Usage old new before after h = absurd h
task_past task status.UnreadableInput old new before after h = within_past 3 old new (λ e. cc e) (within_limit h.0.0 old new h.0.1)
task_past task status.SourceFault old new before after h = within_past 4 old new (λ e. cc e) h.0.0
task_past task status.SinkFault old new before after h = within_past 5 old new (λ e. cc e) (read_within task.reads h.0.makes.input old new h.0.makes.is_read)
task_past task status.WantOfMemory old new before after h = within_past 6 old new (λ e. cc e) h.0
task_past task status.TooLong old new before after h = more_past 7 old new refl h.0.0

not_usage : (task : Task) (s : Status) (old new : SourceState) (before after : SinkState) → TaskStatusMeans task s old new before after → code_of s ≡ 2 → ⊥
not_usage task status.Done old new before after h is = cc
not_usage task status.Refused old new before after h is = cc
not_usage task status.Usage old new before after h is = h
not_usage task status.UnreadableInput old new before after h is = cc
not_usage task status.SourceFault old new before after h is = cc
not_usage task status.SinkFault old new before after h is = cc
not_usage task status.WantOfMemory old new before after h is = cc
not_usage task status.TooLong old new before after h is = cc

-- a subcommand that reads input is a command
pub reads_word : (words : List (List ℕ)) (word : Word) → word_of words ≡ Some word → command_of words ≡ Some (Reads word)
reads_word [] word is = absurd (cc is)
reads_word (w ∷ []) word is = ap (option_map Reads) is
reads_word (w ∷ c ∷ []) word is = absurd (cc is)
reads_word (w ∷ c ∷ d ∷ ws) word is = absurd (cc is)

generated_past : (n : ℕ) (s : Status) (old new : SourceState) (before after : SinkState) → GeneratedStatusMeans n s old new before after → EndsPast (code_of s) old new
generated_past n status.Done old new before after h = within_past 0 old new (λ e. cc e) (rw h.0 ([], Consumes-none old.left, omega arith))
generated_past n status.SinkFault old new before after h = within_past 5 old new (λ e. cc e) (rw h.0 ([], Consumes-none old.left, omega arith))
generated_past n status.WantOfMemory old new before after h = within_past 6 old new (λ e. cc e) (rw h.0 ([], Consumes-none old.left, omega arith))
generated_past n other old new before after h = absurd h

generated_no_usage : (n : ℕ) (s : Status) (old new : SourceState) (before after : SinkState) → GeneratedStatusMeans n s old new before after → code_of s ≡ 2 → ⊥
generated_no_usage n status.Usage old new before after h is = h
generated_no_usage n status.Done old new before after h is = cc
generated_no_usage n status.SinkFault old new before after h is = cc
generated_no_usage n status.WantOfMemory old new before after h is = cc
generated_no_usage n other old new before after h is = absurd h

-- how the lines of a generated image were written
pub puts_generated : (n : ℕ) (made : Report) (s : Status) (source : SourceState) (before after : SinkState) → Generated n made → Puts s made before after → GeneratedStatusMeans n s source source before after
puts_generated n made status.Done source before after g h = (refl, (made, g, h.1), h.2)
puts_generated n made status.Refused source before after g h = absurd (cc (sym g.refused_is ∙ h.0))
puts_generated n made status.SinkFault source before after g h = (refl, (made, g, h.0), h.1)
puts_generated n made status.WantOfMemory source before after g h = (refl, inr ((made, g, h.0), h.1))
puts_generated n made other source before after g h = absurd h

pub says_unread : (words : List (List ℕ)) (code : ℕ) (old new : SourceState) (before after : SinkState) → StatusMeans words code old new before after → EndsUnread words code old new
says_unread words code old new before after says word told word_is left short none =
    let h : TaskStatusMeans (task_of word) says.0 old new before after = rw (reads_word words word word_is) at says.2 in rw says.1 (unread_ends (task_of word) says.0 told old new before after left short none h)

pub says_long : (words : List (List ℕ)) (code : ℕ) (old new : SourceState) (before after : SinkState) → StatusMeans words code old new before after → EndsLong words code old new
says_long words code old new before after says word told word_is left long =
    let h : TaskStatusMeans (task_of word) says.0 old new before after = rw (reads_word words word word_is) at says.2 in rw says.1 (long_ends (task_of word) says.0 told old new before after left long h)

pub says_past : (words : List (List ℕ)) (code : ℕ) (old new : SourceState) (before after : SinkState) → StatusMeans words code old new before after → EndsPast code old new
says_past words code old new before after says = rw says.1 (by_command (command_of words) says.0 says.2) where
  by_command : (command : Option Command) (s : Status) → CommandStatusMeans command s old new before after → EndsPast (code_of s) old new
  by_command (Some (Reads word)) s h = task_past (task_of word) s old new before after h
  by_command (Some (Generates layers)) s h = generated_past layers s old new before after h
  by_command None s h = within_past (code_of s) old new (λ e. cc (sym (ap code_of h.0) ∙ e)) (rw h.1 ([], Consumes-none old.left, omega arith))

pub says_usage : (words : List (List ℕ)) (code : ℕ) (old new : SourceState) (before after : SinkState) → StatusMeans words code old new before after → command_of words ≡ None ↔ code ≡ 2
says_usage words code old new before after says = by_command (command_of words) says.0 says.1 says.2 where
  by_command : (command : Option Command) (s : Status) → code ≡ code_of s → CommandStatusMeans command s old new before after → command ≡ None ↔ code ≡ 2
  by_command None s is h = ((λ none. is ∙ ap code_of h.0), (λ two. refl))
  by_command (Some (Reads word)) s is h = ((λ none. absurd (cc none)), (λ two. absurd (not_usage (task_of word) s old new before after h (sym is ∙ two))))
  by_command (Some (Generates layers)) s is h = ((λ none. absurd (cc none)), (λ two. absurd (generated_no_usage layers s old new before after h (sym is ∙ two))))
