use Rattle.std.proofs.Common.{◌≡◌, ◌↔◌, List, ◌++◌, sym, ap, ◌∙◌, subst}
use Rattle.std.specs.List.{Contains}
use Rattle.std.specs.Map.{keys_of}
use Rattle.casa_flight.specs.declared.comp.Comp.{Comp}
use Rattle.casa_flight.specs.Good.{AreInOrder}
use Rattle.casa_laws.proofs.Kept.{sorted-kept}
use Rattle.casa_item.specs.Versions.{row_of}
use Rattle.casa_table.specs.declared.asking.FlightOver.{FlightOver}
use Rattle.casa_table.specs.Laid.{with_changes}
use Rattle.casa_table.specs.Flights.{rows_of}
use Rattle.casa_table.specs.Passing.{passings_at, in_span, names}
use Rattle.casa_table.specs.Asking.{HaveRows, comps_of, comps_under}
use Rattle.casa_table.proofs.Behind.{behind_both}
use Rattle.casa_table.proofs.FoundOver.{changed_over}
use Rattle.casa_table.proofs.Layers.{sorted-laid}
use Rattle.casa_table.proofs.Sequence.{over_is}
use Rattle.casa_table.proofs.asking.Shared+OfFlight+V+FlightIndex.flights_over.Goals as goal

pub returns-clause-over : goal.returns-clause-over
returns-clause-over g c =
    let item_of = g.V.Version.item_of in
    let r = c.args.regulation.now in
    let rows = rows_of item_of c.args.self.now in
    let ws = c.deref.result.now.entries in
    let es = c.deref-2.result.now in
    let ps = passings_at c.passings.result.now.entries in
    let keys = keys_of ws ++ names (in_span r c.later-end.result (ps r.loc)) in
    let laid : with_changes ws es ≡ c.args.self.now =
    (λ i. with_changes (c.deref.ensures i).entries (c.deref-2.ensures i)) ∙ c.self.view_is in
    let sorted : AreInOrder c.args.self.now = subst AreInOrder laid (sorted-laid ws es c.passings.ensures.ordered) in
    let all = behind_both r rows _ _ _ _ _ c.in_ok-put_changed.ensures c.in_ok-put_passing.ensures in
    let comps : comps_of c.put_passing.new.flights.items ≡ comps_under r rows keys =
    all.comps ∙ ap (λ (fs : List FlightOver). comps_of fs ++ comps_under r rows keys) c.new-flights.ensures.items in
    over_is r rows keys (comps_of c.put_in_order.new.flights.items) (sorted-kept (λ v. row_of (item_of v)) c.args.self.now sorted)
    (changed_over item_of r c.later-end.result ps ws es c.args.self.now c.passings.ensures.ordered laid c.later-end.ensures.other c.passings.ensures.passings)
    c.put_in_order.ensures.ordered
    (λ d. subst (λ (cs : List Comp). Contains (comps_of c.put_in_order.new.flights.items) d ↔ Contains cs d) comps (c.put_in_order.ensures.same d))

pub returns-clause-rows : goal.returns-clause-rows
returns-clause-rows g c =
    let rows = rows_of g.V.Version.item_of c.args.self.now in
    let all = behind_both c.args.regulation.now rows _ _ _ _ _ c.in_ok-put_changed.ensures c.in_ok-put_passing.ensures in
    c.put_in_order.ensures.rows rows (all.have_rows (subst (HaveRows rows) (sym c.new-flights.ensures.items) tt))
