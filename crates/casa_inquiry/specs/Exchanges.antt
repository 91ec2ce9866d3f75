-- to believe: with which flights an issued one could exchange its slot now
use Rattle.std.specs.Prelude.{ℕ, ◌+◌, ◌-◌, List, Bool, ◌||◌, nat_lt, Option, None, Some, if◌then◌else◌}
use Rattle.std.specs.List.{filter_map}
use Rattle.std.specs.Option.{option_and_then, option_map}
use Rattle.casa_filing.specs.Text.{Text, same_text}
use Rattle.casa_filing.specs.FlightPlan.{FlightPlan, etot}
use Rattle.casa_flight.specs.declared.call.Call.TheVariants.{Swap}
use Rattle.casa_flight.specs.declared.row.Row.{Row}
use Rattle.casa_flight.specs.declared.row.Stance.{Stance}
use Rattle.casa_flight.specs.declared.row.Stance.TheVariants.{Competing, Issued, Forced}
use Rattle.casa_flight.specs.declared.state.State.{State}
use Rattle.casa_flight.specs.Listing.{Listing}
use Rattle.casa_flight.specs.Replies.{ctot_before as ctot_in}
use Rattle.casa_flight.specs.State.{row_of}
use Rattle.casa_flight.specs.Steps.{Step, refused, leads, step}
use Rattle.casa_inquiry.specs.declared.exchanging.IssuedTimes.{IssuedTimes}
use Rattle.casa_inquiry.specs.declared.exchanging.PossibleExchange.{PossibleExchange}

-- the other flight of an exchange that led to a state, and the calculated take-off times that both have there
abbrev pub exchanged : State → Text → Text → PossibleExchange
exchanged n key other = record { other = other; ctot = ctot_in n key; other_ctot = ctot_in n other }

-- what comes of an exchange that was asked for: nothing where it was refused
abbrev pub exchange_after : Text → Text → Step → Option PossibleExchange
exchange_after key other (refused r) = None
exchange_after key other (leads n) = Some (exchanged n key other)

-- the exchange of a flight with another one, as the allocator would answer it
abbrev pub exchange_with : State → Text → Text → Option PossibleExchange
exchange_with m key other = if same_text key other then None else exchange_after key other (step m (Swap key other))

-- the exchanges of a flight with all filed flights, where they would be accepted, in the order of the others' keys
abbrev pub exchanges : State → Text → List PossibleExchange
exchanges m key = filter_map (λ (e : Text × Row). exchange_with m key e.0) m.rows

-- inner: whether a time is too early for a flight with this plan and time over: the rule of `is_too_early`, of which the
-- list told the time over
abbrev pub is_early : ℕ → FlightPlan → ℕ → ℕ → Bool
is_early clock plan eto time = nat_lt time eto || nat_lt (etot plan + (time - eto)) clock

-- inner: the calculated take-off time of such a flight at another time over, unless that is too early for it
abbrev pub ctot_at : ℕ → FlightPlan → ℕ → ℕ → Option ℕ
ctot_at clock plan eto time = if is_early clock plan eto time then None else Some (etot plan + (time - eto))

-- inner: the exchange of two issued flights of one regulation, each with its plan and its times over there
abbrev pub exchange_at : ℕ → FlightPlan → IssuedTimes → Text → FlightPlan → IssuedTimes → Option PossibleExchange
exchange_at clock plan own other its_plan its =
    option_and_then (λ (ctot : ℕ).
    option_map (λ (other_ctot : ℕ). record { other = other; ctot = ctot; other_ctot = other_ctot }) (ctot_at clock its_plan its.eto own.cto))
    (ctot_at clock plan own.eto its.cto)

-- inner: the times over of an issued flight
abbrev pub issued_times : Stance → Option IssuedTimes
issued_times (Competing eto) = None
issued_times (Issued eto cto) = Some (record { eto = eto; cto = cto })
issued_times (Forced eto) = None

-- inner: the exchange of an issued flight with one that stands so in the list of its regulation
abbrev pub exchange_in : State → Text → FlightPlan → IssuedTimes → Text × Stance → Option PossibleExchange
exchange_in m key plan own e =
    if same_text key e.0 then None else
    option_and_then (λ (its : IssuedTimes).
    option_and_then (λ (mate : Row). exchange_at m.clock plan own e.0 mate.plan its) (row_of m e.0)) (issued_times e.1)

-- inner: and with those of a whole list
abbrev pub exchanges_in : State → Text → FlightPlan → IssuedTimes → Listing → List PossibleExchange
exchanges_in m key plan own l = filter_map (exchange_in m key plan own) l.flights
