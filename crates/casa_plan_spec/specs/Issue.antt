-- inner contracts: flights that become issued as the clock moves, by what a view shows
use Rattle.std.specs.Prelude.{ℕ, List, [], ◌∷◌, Bool, true, false, nat_lt, Option, Some}
use Rattle.std.specs.Option.{option_map, option_map_or, option_and_then}
use Rattle.std.specs.List.{fold}
use Rattle.casa_flight.specs.declared.call.Refusal.TheVariants.{BackInTime}
use Rattle.casa_flight.specs.declared.reply.Reply.{Reply}
use Rattle.casa_flight.specs.declared.reply.Reply.TheVariants.{Refused}
use Rattle.casa_flight.specs.declared.row.Row.{Row}
use Rattle.casa_flight.specs.declared.row.Stance.{Stance}
use Rattle.casa_filing.specs.Text.{Text}
use Rattle.casa_flight.specs.Listing.{Listing, stance_of, stance, eto_as, cto_of}
use Rattle.casa_footprint.specs.Finding.{due_keys}
use Rattle.casa_plan_spec.specs.Sight.{Sight, Written, nothing_written, clock_in, list_in, row_in}
use Rattle.casa_plan_spec.specs.Write.{Stances, write_flight}
use Rattle.casa_plan_spec.specs.Messages.{answer_done}

-- how a flight with this row stands in the list that governs it, by the time over that it has there
abbrev pub governed_stance : Text → Row → Listing → Option Stance
governed_stance key row l = option_map (λ (s : Stance). stance true row.issued (eto_as s)) (stance_of l key)

abbrev pub governed_stances : Sight → Text → Row → Stances
governed_stances v key row =
    option_map_or (λ (id : Text). (id, option_and_then (governed_stance key row) (list_in v id)) ∷ []) row.governing []

-- the flight issued at the calculated time over that it has in the list that governs it, as that is shown
abbrev pub issued_row : Sight → Text → Row → Row
issued_row v key row =
    record row { issued = option_and_then (λ (l : Listing). cto_of l key) (option_and_then (list_in v) row.governing) }

-- a change once the flight that is shown under a key is issued too: its other lists stay as they are
abbrev pub with_issued_row : Sight → Written → Text → Row → Written
with_issued_row v w key new = write_flight v w key (Some new) (governed_stances v key new)

abbrev pub with_issue : Sight → Written → Text → Written
with_issue v w key = option_map_or (λ (row : Row). with_issued_row v w key (issued_row v key row)) (row_in v key) w

-- a change once these flights are issued too, each at the time that it has before all of them
abbrev pub with_issues : Sight → Written → List Text → Written
with_issues v w keys = fold (with_issue v) w keys

-- the change of the clock
abbrev pub clock_written : ℕ → Written
clock_written at = record nothing_written { clock = Some at }

-- and of all that is due by then
abbrev pub tick_written : Sight → ℕ → Written
tick_written v at = with_issues v (clock_written at) (due_keys at v.rows)

abbrev pub tick_if : Sight → ℕ → Bool → Reply × Written
tick_if v at true = (Refused BackInTime, nothing_written)
tick_if v at false = answer_done v (tick_written v at)

-- the answer to the clock
abbrev pub tick : Sight → ℕ → Reply × Written
tick v at = tick_if v at (nat_lt at (clock_in v))
