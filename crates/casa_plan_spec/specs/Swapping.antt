-- inner contracts: an exchange of slots, by what a view shows
use Rattle.std.specs.Prelude.{ℕ, Bool, true, false, Option, None, Some}
use Rattle.std.specs.Option.{option_and_then}
use Rattle.casa_flight.specs.declared.call.Refusal.TheVariants.{NoFlight, NotIssued, OtherRegulation, TooEarly}
use Rattle.casa_flight.specs.declared.reply.Reply.{Reply}
use Rattle.casa_flight.specs.declared.row.Row.{Row}
use Rattle.casa_filing.specs.Text.{Text}
use Rattle.casa_flight.specs.Steps.{Exchange, are_too_early, with_issued_time, is_shared}
use Rattle.casa_plan_spec.specs.Sight.{Sight, Written, nothing_written, clock_in, list_in, row_in}
use Rattle.casa_plan_spec.specs.FlightCalls.{refusal}
use Rattle.casa_plan_spec.specs.Issue.{with_issued_row}
use Rattle.casa_plan_spec.specs.Messages.{answer_done}

-- each of two issued flights is written at the other's time, in the list that governs it
abbrev pub exchange_written : Sight → Exchange → Written
exchange_written v x =
    with_issued_row v (with_issued_row v nothing_written x.key (with_issued_time x.row x.time)) x.other (with_issued_time x.mate x.cto)

abbrev pub swap_if : Sight → Exchange → Bool → Bool → Reply × Written
swap_if v x false early = refusal OtherRegulation
swap_if v x true true = refusal TooEarly
swap_if v x true false = answer_done v (exchange_written v x)

abbrev pub swap_issued : Sight → Text → Row → Text → Row → Option ℕ → Option ℕ → Reply × Written
swap_issued v key row other mate None time = refusal NotIssued
swap_issued v key row other mate (Some cto) None = refusal NotIssued
swap_issued v key row other mate (Some cto) (Some time) =
    let x : Exchange = record { key = key; row = row; cto = cto; other = other; mate = mate; time = time } in
    swap_if v x (is_shared row mate)
    (are_too_early (clock_in v) (option_and_then (list_in v) row.governing) (option_and_then (list_in v) mate.governing) x)

abbrev pub swap_at : Sight → Text → Text → Option Row → Option Row → Reply × Written
swap_at v key other None mate = refusal NoFlight
swap_at v key other (Some row) None = refusal NoFlight
swap_at v key other (Some row) (Some mate) = swap_issued v key row other mate row.issued mate.issued

-- the answer to an exchange of slots
abbrev pub swap : Sight → Text → Text → Reply × Written
swap v key other = swap_at v key other (row_in v key) (row_in v other)
