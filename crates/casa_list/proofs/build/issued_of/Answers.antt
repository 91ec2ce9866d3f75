use Rattle.std.proofs.Common.{◌≡◌, ◌∙◌, ap, map, sym, subst, rules}
use Rattle.std.specs.List.{All}
use Rattle.casa_flight.specs.Listing.{sorted_by}
use Rattle.casa_slots.specs.Seat.{HoldsTime, issued_in}
use Rattle.casa_list.specs.Standings.{is_flight_before}
use Rattle.casa_list.proofs.Mapped.{in_order-map, All-in_order}
use Rattle.casa_list.proofs.Searched.{assigned_before}
use Rattle.casa_list.proofs.build.issued_of.Goals as goal

pub returns-clause-flights : goal.returns-clause-flights
returns-clause-flights c =
    let all = c.in_ok-all.all.items in
    let sorted : c.sort_seats.new.seats.items ≡ sorted_by assigned_before all = search rules in
    ap (map issued_in) sorted ∙ sym (in_order-map issued_in is_flight_before all) ∙ ap (sorted_by is_flight_before) c.in_ok-all.ensures.flights

pub returns-clause-times : goal.returns-clause-times
returns-clause-times c =
    let all = c.in_ok-all.all.items in
    let sorted : c.sort_seats.new.seats.items ≡ sorted_by assigned_before all = search rules in
    subst (All HoldsTime) (sym sorted) (All-in_order HoldsTime assigned_before all c.in_ok-all.ensures.times)
