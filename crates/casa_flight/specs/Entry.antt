-- to believe: how a flight enters, is offered slots and is governed; how flights become issued
use Rattle.std.specs.Prelude.{ℕ, ◌-◌, List, [], ◌∷◌, map, Bool, true, false, not, ◌&&◌, ◌||◌, nat_lt, Option, None, Some, is_some, if◌then◌else◌}
use Rattle.std.specs.Option.{option_map_or, option_and_then}
use Rattle.std.specs.List.{filter_map, best_of}
use Rattle.casa_flight.specs.declared.comp.Comp.{Comp}
use Rattle.casa_filing.specs.declared.regulation.Regulation.{Regulation}
use Rattle.casa_flight.specs.declared.row.Row.{Row}
use Rattle.casa_flight.specs.declared.row.Stance.TheVariants.{Competing}
use Rattle.casa_flight.specs.declared.state.State.{State}
use Rattle.casa_filing.specs.Text.{Text, put}
use Rattle.casa_filing.specs.FlightPlan.{FlightPlan}
use Rattle.casa_filing.specs.Subject.{subject, is_due, is_gone}
use Rattle.casa_flight.specs.State.{row_of, with_row, catalogue, is_exempt, ungoverned}
use Rattle.casa_flight.specs.Listing.{Listing, list_of, cto_as, cto_of, governing_list}

-- what a flight finds when it enters: the clock, the open regulations in the order of their identifiers, and their lists
pub record Situation : Type 0 where
  pub clock : ℕ
  pub regulations : List Regulation
  pub lists : Text → Option Listing

abbrev pub situation : State → Situation
situation m = record { clock = m.clock; regulations = catalogue m; lists = list_of m }

-- the list with the flight as a competitor
abbrev pub with_competitor : Listing → Text → ℕ → Listing
with_competitor l key eto = record l { flights = put l.flights key (Competing eto) }

-- what a regulation offers a flight
pub record Offer : Type 0 where
  pub id : Text
  pub cto : ℕ
  pub delay : ℕ

-- the calculated time over that the flight would have as a competitor there, and the delay that this is (manual)
abbrev pub offer_in : Text → Text → Option Listing → Option ℕ → Option Offer
offer_in id key (Some l) (Some eto) =
    let time : ℕ = cto_as (with_competitor l key eto) key (Competing eto) in
    Some (record { id = id; cto = time; delay = time - eto })
offer_in id key (Some l) None = None
offer_in id key None eto = None

abbrev pub offer : Situation → Text → FlightPlan → Regulation → Option Offer
offer s key plan r = offer_in r.id key (s.lists r.id) (subject plan r)

-- the offers of the regulations to which the flight is subject
abbrev pub offers : Situation → Text → FlightPlan → List Offer
offers s key plan = filter_map (offer s key plan) s.regulations

-- the most penalising one: the first of the greatest delays, the smaller identifier coming first (manual; ties: profile)
abbrev pub most_penalising : List Offer → Option Offer
most_penalising [] = None
most_penalising (o ∷ os) = Some (best_of (λ (x best : Offer). nat_lt best.delay x.delay) o os)

-- the more penalising of an offer, if there is one so far, and the next: the earlier one where both delay as much
abbrev pub more_penalising : Option Offer → Offer → Offer
more_penalising None o = o
more_penalising (Some best) o = if nat_lt best.delay o.delay then o else best

abbrev pub choice : Situation → Text → FlightPlan → Option Offer
choice s key plan = most_penalising (offers s key plan)

-- the flight governed as offered; it is issued at once if it is due (profile)
abbrev pub governed : ℕ → Row → Offer → Row
governed clock row o =
    record row { governing = Some o.id; issued = if is_due clock row.plan then Some o.cto else None }

-- an ungoverned flight as it stands after it entered: exempt, gone or subject to nothing it stays ungoverned (profile)
abbrev pub row_after_entry : Situation → Text → Row → Row
row_after_entry s key row =
    if is_exempt row || is_gone s.clock row.plan then row
    else (option_map_or (governed s.clock row) (choice s key row.plan) row)

abbrev pub enter : State → Text → Row → State
enter m key row = with_row m key (row_after_entry (situation m) key row)

abbrev pub reenter : State → Text → Option Row → State
reenter m key None = m
reenter m key (Some row) = enter m key (ungoverned row)

-- these flights enter one by one
abbrev pub enter_all : State → List Comp → State
enter_all m [] = m
enter_all m (c ∷ cs) = enter_all (reenter m c.key (row_of m c.key)) cs

-- whether a governed flight is due and not issued yet
abbrev pub is_to_issue : ℕ → Row → Bool
is_to_issue clock row = is_some row.governing && (not (is_some row.issued) && is_due clock row.plan)

-- the flight issued at the calculated time over that it has
abbrev pub issued_in : State → Text → Row → Row
issued_in m key row = record row { issued = option_and_then (λ (l : Listing). cto_of l key) (governing_list m row) }

abbrev pub issue_if : Bool → State → Text → Row → Row
issue_if true m key row = issued_in m key row
issue_if false m key row = row

-- all due flights become issued, all at once: each at its place in the state before (manual; at once: profile)
abbrev pub issue_due : State → State
issue_due m =
    record m { rows = map (λ (e : Text × Row). (e.0, issue_if (is_to_issue m.clock e.1) m e.0 e.1)) m.rows }
