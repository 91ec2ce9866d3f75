-- to believe: what is seen of a run: its events, and what they left
use Rattle.std.specs.Prelude.{ℕ, List, Option, None, Some, slice_get}
use Rattle.casa_history.specs.declared.entry.Entry.{Entry}
use Rattle.casa_interleavings.specs.declared.event.Event.{Event}
use Rattle.casa_interleavings.specs.declared.event.Outcome.{Outcome}

-- a run: the events that it has had, and what they left: the history, the world, and the outcome of each worker's last commit
pub record Played (W C R : Type 0) : Type 0 where
  pub events : List (Event C)
  pub history : List (Entry C R)
  pub world : W
  pub outcomes : List (Option Outcome)

-- the outcome that was found, if there is one
abbrev pub outcome_found : Option (Option Outcome) → Option Outcome
outcome_found None = None
outcome_found (Some outcome) = outcome

module _ {W C R : Type 0} where
  -- the events that a run has had, the first of them first
  abbrev pub run_events : Played W C R → List (Event C)
  run_events run = run.events

  -- the history of a run
  abbrev pub run_history : Played W C R → List (Entry C R)
  run_history run = run.history

  -- the world as it is left
  abbrev pub run_world : Played W C R → W
  run_world run = run.world

  -- the outcome of each worker's last commit
  abbrev pub run_outcomes : Played W C R → ℕ → Option Outcome
  run_outcomes run w = outcome_found (slice_get run.outcomes w)
