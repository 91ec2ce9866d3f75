use Rattle.std.proofs.Common.{List, ap, ◌∙◌, false, Some}
use Rattle.std.specs.Option.{option_map_or}
use Rattle.std.specs.List.{filter}
use Rattle.casa_flight.specs.declared.comp.Comp.{Comp}
use Rattle.casa_filing.specs.declared.regulation.Regulation.{Regulation}
use Rattle.casa_flight.specs.Steps.{may_compete}
use Rattle.casa_filing.specs.Text.{put}
use Rattle.casa_flight.specs.Listing.{Listing}
use Rattle.casa_plan_spec.specs.Sight.{Sight, Written, row_in}
use Rattle.casa_plan_spec.specs.Enter.{with_entries}
use Rattle.casa_table.specs.declared.asking.FlightOver.{FlightOver}
use Rattle.casa_table.specs.Asking.{comps_of}
use Rattle.casa_plan.specs.TakingIn.{stances_of}
use Rattle.casa_plan.proofs.TakenIn.{taking_in_as, stances_shown}
use Rattle.casa_plan.proofs.taking_in.taking_in.Goals as goal

pub returns : goal.returns
returns g c =
    let v : Sight = c.args.view.now in
    let r : Regulation = c.args.regulation in
    let rs : List Regulation = c.in_ok-catalogue.catalogue in
    let flights = c.in_ok-over.over.items in
    let list : Listing = c.in_ok-list_over.field-0 in
    let newcomers : List FlightOver → Written → Written =
    λ fs w. with_entries c.clock-clock.result rs v w (filter (λ (f : Comp). option_map_or (may_compete c.clock-clock.result) (row_in v f.key) false) (comps_of fs)) in
    c.in_ok-set_catalogue.ensures.written
    ∙ ap (λ (w : Written). let x : Written = record w { catalogue = Some rs } in x)
    (c.in_ok-enter_newcomers.ensures
    ∙ (λ i. newcomers (c.deref-2.ensures.value i)
    ((c.in_ok-set_list.ensures.written ∙ ap (λ (w : Written). let x : Written = record w { lists = put w.lists r.id (Some list) } in x) c.new-draft.ensures) i)))
    ∙ taking_in_as v r c.args.profile.now c.clock-clock.result rs (comps_of flights) list
    c.flights_over.ensures.ordered c.clock-clock.ensures c.in_ok-catalogue.ensures c.in_ok-over.ensures.over
    (c.in_ok-list_over.ensures ∙ (λ i. record { profile = c.args.profile.now; flights = (ap (stances_of r.id) c.deref.ensures.value ∙ stances_shown v r.id flights c.in_ok-over.ensures.rows) i }))
