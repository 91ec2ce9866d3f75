-- inner contracts: the answer to each call on one flight, by what a view shows
use Rattle.std.specs.Prelude.{ℕ, ◌+◌, [], Bool, true, false, not, ◌&&◌, ◌||◌, nat_lt, Option, None, Some, is_some}
use Rattle.casa_flight.specs.declared.call.Refusal.{Refusal}
use Rattle.casa_flight.specs.declared.call.Refusal.TheVariants.{Duplicate, NoFlight, Late, AlreadyExempt}
use Rattle.casa_flight.specs.declared.reply.Answer.TheVariants.{Done, Flight}
use Rattle.casa_flight.specs.declared.reply.Reply.{Reply}
use Rattle.casa_flight.specs.declared.reply.Reply.TheVariants.{Refused, Answered}
use Rattle.casa_flight.specs.declared.row.Row.{Row}
use Rattle.casa_filing.specs.Text.{Text}
use Rattle.casa_filing.specs.FlightPlan.{FlightPlan, etot}
use Rattle.casa_filing.specs.Subject.{is_gone}
use Rattle.casa_flight.specs.State.{is_exempt, ungoverned}
use Rattle.casa_flight.specs.Entry.{Offer}
use Rattle.casa_flight.specs.Steps.{new_row}
use Rattle.casa_flight.specs.Replies.{flight_with}
use Rattle.casa_plan_spec.specs.Sight.{Sight, Written, nothing_written, clock_in, list_in, row_in}
use Rattle.casa_plan_spec.specs.OneFlight.{entry_offer, with_offer, offered_delay, flight_written, reply_to_change}
use Rattle.casa_plan_spec.specs.Messages.{delay_by, ctot_by}

-- the answer to each call on one flight by what a view shows: the reply, and what is written. Each by its look-ups, an
-- equation for each outcome, the refusals in their order

-- a refused call writes nothing
abbrev pub refusal : Refusal → Reply × Written
refusal r = (Refused r, nothing_written)

-- the flight as it is shown
abbrev pub leave_unchanged : Sight → Text → Row → Reply × Written
leave_unchanged v key row = (Answered (Flight (flight_with key row (delay_by (list_in v) key row))) [], nothing_written)

-- a flight that stood so now stands so, with this delay
abbrev pub rewrite_flight : Sight → Text → Option Row → Row → ℕ → Reply × Written
rewrite_flight v key was row delay = (reply_to_change v key was row delay, flight_written v key was (Some row))

-- an ungoverned flight takes an offer, in place of how it stood
abbrev pub take_offer : Sight → Text → Option Row → Row → Option Offer → Reply × Written
take_offer v key was row o = rewrite_flight v key was (with_offer (clock_in v) row o) (offered_delay o)

-- an ungoverned flight enters, in place of how it stood
abbrev pub enter_flight : Sight → Text → Option Row → Row → Reply × Written
enter_flight v key was row = take_offer v key was row (entry_offer v key row)

-- a filed flight is added and enters
abbrev pub file_if : Sight → FlightPlan → Option Row → Bool → Reply × Written
file_if v plan (Some row) late = refusal Duplicate
file_if v plan None true = refusal Late
file_if v plan None false = enter_flight v plan.key None (new_row plan)

abbrev pub file : Sight → FlightPlan → Reply × Written
file v plan = file_if v plan (row_in v plan.key) (nat_lt plan.eobt (clock_in v))

-- an amended flight enters with its new plan; a desk's mark stays
abbrev pub amend_if : Sight → FlightPlan → Option Row → Bool → Reply × Written
amend_if v plan None late = refusal NoFlight
amend_if v plan (Some row) true = refusal Late
amend_if v plan (Some row) false = enter_flight v plan.key (Some row) (record (ungoverned row) { plan = plan })

abbrev pub amend : Sight → FlightPlan → Reply × Written
amend v plan = amend_if v plan (row_in v plan.key) (nat_lt plan.eobt (clock_in v))

-- a cancelled flight is removed
abbrev pub cancel_at : Sight → Text → Option Row → Reply × Written
cancel_at v key None = refusal NoFlight
cancel_at v key (Some row) = (Answered Done [], flight_written v key (Some row) None)

abbrev pub cancel : Sight → Text → Reply × Written
cancel v key = cancel_at v key (row_in v key)

-- whether a revised flight takes the offer: what is not issued always does; what is issued does before it is gone, and
-- only if it leaves earlier
abbrev pub is_taken : Sight → Text → Row → Option Offer → Bool
is_taken v key row o =
    not (is_some row.issued)
    || (not (is_gone (clock_in v) row.plan) && nat_lt (etot row.plan + offered_delay o) (ctot_by (list_in v) key row))

abbrev pub take_offer_if : Bool → Sight → Text → Row → Option Offer → Reply × Written
take_offer_if true v key row o = take_offer v key (Some row) (ungoverned row) o
take_offer_if false v key row o = leave_unchanged v key row

-- a revised flight takes what it would get as it enters anew, or it stays as it is
abbrev pub revise_by : Sight → Text → Row → Option Offer → Reply × Written
revise_by v key row o = take_offer_if (is_taken v key row o) v key row o

abbrev pub revise_at : Sight → Text → Option Row → Reply × Written
revise_at v key None = refusal NoFlight
revise_at v key (Some row) = revise_by v key row (entry_offer v key (ungoverned row))

abbrev pub revise : Sight → Text → Reply × Written
revise v key = revise_at v key (row_in v key)

-- an exempted flight is marked and governed by nothing
abbrev pub mark_exempt_if : Sight → Text → Row → Bool → Reply × Written
mark_exempt_if v key row true = refusal AlreadyExempt
mark_exempt_if v key row false = rewrite_flight v key (Some row) (record (ungoverned row) { marked = true }) 0

abbrev pub exempt_at : Sight → Text → Option Row → Reply × Written
exempt_at v key None = refusal NoFlight
exempt_at v key (Some row) = mark_exempt_if v key row (is_exempt row)

abbrev pub exempt : Sight → Text → Reply × Written
exempt v key = exempt_at v key (row_in v key)

-- a flight is shown as it stands
abbrev pub show_at : Sight → Text → Option Row → Reply × Written
show_at v key None = refusal NoFlight
show_at v key (Some row) = leave_unchanged v key row

abbrev pub show : Sight → Text → Reply × Written
show v key = show_at v key (row_in v key)
