use Rattle.std.proofs.Common.{◌≡◌, ◌∙◌, ap, sym, rules}
use Rattle.casa_flight.specs.declared.comp.Assigned.{Assigned}
use Rattle.casa_flight.specs.Listing.{sorted_by, is_before}
use Rattle.casa_slots.specs.Walk.{comps_in}
use Rattle.casa_list.proofs.Mapped.{in_order-map}
use Rattle.casa_list.proofs.Searched.{assigned_before}
use Rattle.casa_list.proofs.build.competitors_of.Goals as goal

pub returns-clause-items : goal.returns-clause-items
returns-clause-items c =
    let all = c.in_ok-all.all.items in
    let sorted : c.sort_seats.new.seats.items ≡ sorted_by assigned_before all = search rules in
    ap comps_in sorted ∙ sym (in_order-map (λ (a : Assigned). a.comp) is_before all) ∙ ap (sorted_by is_before) c.in_ok-all.ensures.items
