-- One pull of a case with one moment.
use Rattle.std.specs.Prelude.{◌≡◌, ℕ, length, [], ◌∷◌, Some}
use Rattle.recorded_case.specs.Replay.{state_of}
use Rattle.recorded_case.specs.declared.case.Case.{Case}
use Rattle.pulled_cases.specs.Pulls.{PullRecord, Pulled}
use Rattle.pulled_cases.specs.declared.once.OnePull.{OnePull}

abbrev pub HasOneMoment : Case → Type 0
HasOneMoment case = length case.moments ≡ 1

-- the pulls of the case are this one, with this result; the replay exposes its conversation
pub record PulledOnce (case : Case) (p : OnePull) : Type 0 where
  pub talk : PullRecord
  pub pulled : Pulled case (talk ∷ [])
  pub outcome : talk.result ≡ p.outcome
  pub told : (state_of p.replay).told ≡ Some talk.conversation
