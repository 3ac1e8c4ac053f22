-- What a loss of power makes of a journal.
use Rattle.std.specs.Prelude.{◌≡◌, Bool, cond, List, map, Some, None, Option}
use Rattle.model.specs.declared.outcome.Outcome.{Outcome}
use Rattle.model.specs.Journal.{Journal as Log, Entry as PlainEntry, restarted}
use Rattle.model.specs.History.{OutcomesLeft}

-- any of the pending outcomes may be gone, nothing else; the rest are durable
pub record Restarted (before after : Log) : Type 0 where
  pub left : List (Option Bool)
  pub allowed : OutcomesLeft before.entries left
  pub holds : after ≡ restarted before left

abbrev pub if_durable : Option Outcome → Option Bool
if_durable None = None
if_durable (Some o) = cond o.durable (Some o.commits) None

-- the outcomes that are left where every pending one is lost
abbrev pub only_durable : List PlainEntry → List (Option Bool)
only_durable es = map (λ (e : PlainEntry). if_durable e.outcome) es
