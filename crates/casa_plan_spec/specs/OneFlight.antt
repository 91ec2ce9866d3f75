-- inner contracts: what a flight is offered and takes, and what is then written, by what a view shows
use Rattle.std.specs.Prelude.{ℕ, ◌+◌, List, [], Bool, ◌||◌, Option, None, Some, is_some, if◌then◌else◌}
use Rattle.std.specs.Option.{option_map_or}
use Rattle.std.specs.List.{filter_map, cons_option}
use Rattle.casa_flight.specs.declared.reply.Answer.TheVariants.{Flight}
use Rattle.casa_flight.specs.declared.reply.Reply.{Reply}
use Rattle.casa_flight.specs.declared.reply.Reply.TheVariants.{Answered}
use Rattle.casa_flight.specs.declared.row.Row.{Row}
use Rattle.casa_filing.specs.Text.{Text}
use Rattle.casa_filing.specs.FlightPlan.{FlightPlan, etot}
use Rattle.casa_filing.specs.Subject.{is_gone}
use Rattle.casa_flight.specs.State.{is_exempt}
use Rattle.casa_flight.specs.Listing.{Listing}
use Rattle.casa_flight.specs.Entry.{Offer, offer_in, most_penalising, governed}
use Rattle.casa_flight.specs.Replies.{flight_with, message_of, is_issued}
use Rattle.casa_footprint.specs.Finding.{crossed}
use Rattle.casa_plan_spec.specs.Sight.{Sight, Written, nothing_written, clock_in, regulations_in, list_in}
use Rattle.casa_plan_spec.specs.Write.{stances, write_stands}
use Rattle.casa_plan_spec.specs.Messages.{ctot_by}

-- what these regulations offer a flight with these times over, each by its list
abbrev pub offers_of : (Text → Option Listing) → Text → List (Text × ℕ) → List Offer
offers_of lists key over = filter_map (λ (e : Text × ℕ). offer_in e.0 key (lists e.0) (Some e.1)) over

-- the most penalising offer of the regulations to which the plan is subject
abbrev pub best_offer : Sight → Text → FlightPlan → Option Offer
best_offer v key plan = most_penalising (offers_of (list_in v) key (crossed plan (regulations_in v)))

-- the offer that an ungoverned flight takes as it enters: exempt or gone it takes none
abbrev pub entry_offer : Sight → Text → Row → Option Offer
entry_offer v key row = if is_exempt row || is_gone (clock_in v) row.plan then None else best_offer v key row.plan

-- the flight with the offer that it takes, if there is one
abbrev pub with_offer : ℕ → Row → Option Offer → Row
with_offer clock row o = option_map_or (governed clock row) o row

-- the delay that an offer is, and none without one
abbrev pub offered_delay : Option Offer → ℕ
offered_delay o = option_map_or (λ (o : Offer). o.delay) o 0

-- what is written where a flight stood so and now stands so: its row, and how it is to stand in its lists
abbrev pub flight_written : Sight → Text → Option Row → Option Row → Written
flight_written v key was now = write_stands nothing_written key now (stances (regulations_in v) was now)

-- the reply with this flight and its message, by whether it was issued before and its calculated take-off time then
abbrev pub reply_with_message : Text → Row → ℕ → Bool → ℕ → Reply
reply_with_message key row delay was before =
    Answered (Flight (flight_with key row delay))
    (cons_option (message_of key row.governing was (is_some row.issued) before (etot row.plan + delay)) [])

-- the calculated take-off time that a flight is shown with, and midnight for no flight
abbrev pub ctot_shown_if : Sight → Text → Option Row → ℕ
ctot_shown_if v key was = option_map_or (ctot_by (list_in v) key) was 0

-- the reply where a flight stood so, and now stands so with this delay
abbrev pub reply_to_change : Sight → Text → Option Row → Row → ℕ → Reply
reply_to_change v key was row delay = reply_with_message key row delay (is_issued was) (ctot_shown_if v key was)
