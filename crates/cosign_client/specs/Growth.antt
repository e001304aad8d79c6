-- How several calls of one client extend the log of its calls.
use Rattle.std.specs.Prelude.{◌≡◌, ℕ, List, ◌++◌, Option, All}
use Rattle.oci_transport.specs.declared.message.Exchange.{Exchange}
use Rattle.oci_protocol.specs.Proto.{Proto}
use Rattle.oci_protocol.specs.Runs.{Runs}
use Rattle.engine_terms.specs.declared.settings.Settings.{Settings}
use Rattle.registry_cache.specs.declared.answers.Answers.{Answers}
use Rattle.registry_calls.specs.Clients.{Kept}
use Rattle.registry_calls.specs.Log.{LoggedCall, IsRun, IsBacked}

-- the call was made at this moment, and its exchanges are a part of these
pub record IsMadeIn (now : ℕ) (c : List Exchange) (p : LoggedCall) : Type 0 where
  pub moment_is : p.moment ≡ now
  pub before : List Exchange
  pub after : List Exchange
  pub split : c ≡ before ++ (p.conversation ++ after)

-- with calls that were made at this moment in these exchanges, the log is a run, and it backs what is cached now
pub record ExtendsLog (s : Settings) (now : ℕ) (c : List Exchange) (kept : Option Answers) (log : List LoggedCall)
    : Type 0 where
  pub more : List LoggedCall
  pub made : All (IsMadeIn now c) more
  pub run : IsRun s (more ++ log)
  pub backed : IsBacked s kept (more ++ log)

-- each complete run of the protocol extends a log that is a run and backs what was cached before
pub record PreservesLog {A : Type 0} (s : Settings) (now : ℕ) (p : Proto Kept A) : Type 0 where
  pub grows : (k l : Kept) (m n : ℕ) (c : List Exchange) (answer : A) (log : List LoggedCall)
      → Runs p k m c n l answer → IsRun s log → IsBacked s k.1 log → ExtendsLog s now c l.1 log
