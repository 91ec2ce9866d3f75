-- inner contracts: how many calls of each command a history has
use Rattle.std.specs.Prelude.{◌≡◌, ℕ, ◌-◌, ◌^◌, min, List, length, map}
use Rattle.casa_flight.specs.declared.call.Call.{Call}
use Rattle.casa_flight.specs.declared.call.Call.TheVariants.{File, Amend, Cancel, Revise, Exempt, OpenReg, CloseReg, Rates, Tick, Show, List as ListOf, Swap}
use Rattle.casa_flight.specs.declared.reply.Reply.{Reply}
use Rattle.casa_history.specs.declared.entry.Entry.{Entry}
use Rattle.casa_live.specs.declared.tally.Tally.{Tally}
use Rattle.casa_live.specs.Metrics.{calls_in, commands, refusals_in}

-- a count in 64 bits, which stays at its greatest value
abbrev pub at_most : ℕ → ℕ
at_most n = min n (2 ^ 64 - 1)

-- the number of a call's command among all
abbrev pub command_number : Call → ℕ
command_number (File plan) = 0
command_number (Amend plan) = 1
command_number (Cancel key) = 2
command_number (Revise key) = 3
command_number (Exempt key) = 4
command_number (Show key) = 5
command_number (OpenReg id loc profile) = 6
command_number (CloseReg id) = 7
command_number (Rates id profile) = 8
command_number (ListOf id) = 9
command_number (Tick at) = 10
command_number (Swap key other) = 11

-- a tally of all entries of a history
pub record IsTallyOf (history : List (Entry Call Reply)) (tally : Tally) : Type 0 where
  pub position : tally.position ≡ length history
  pub calls : tally.calls ≡ map (calls_in history) commands
  pub refusals : tally.refusals ≡ map (refusals_in history) commands
