use Rattle.std.proofs.Common.{rules, ◌≡◌, ◌↔◌, Option, Some, [], ◌∷◌, ◌++◌, List, sym, ap, ◌∙◌, subst}
use Rattle.std.specs.List.{AllByRecursion, Contains}
use Rattle.std.specs.Map.{keys_of}
use Rattle.std.specs.Option.{option_and_then}
use Rattle.casa_flight.specs.declared.comp.Comp.{Comp}
use Rattle.casa_flight.specs.Good.{AreInOrder}
use Rattle.casa_filing.specs.Text.{Text, at_name}
use Rattle.casa_filing.proofs.Entries.{each_found}
use Rattle.casa_laws.proofs.Kept.{at-kept, sorted-kept}
use Rattle.casa_table.specs.declared.asking.FlightOver.{FlightOver}
use Rattle.casa_table.specs.Flights.{row_named, rows_named}
use Rattle.casa_table.specs.Asking.{HaveRows, comps_of, comps_under, AreBehind}
use Rattle.casa_table.proofs.Behind.{AreLeft, all_left, one_less, none_left}
use Rattle.casa_table.proofs.FoundOver.{named_over}
use Rattle.casa_table.proofs.Sequence.{over_is}
use Rattle.casa_table.proofs.asking.flights_over_named.Given as given
use Rattle.casa_table.proofs.asking.flights_over_named.Goals as goal

pub loop-key-init : goal.loop-key-init
loop-key-init g c =
    let all = c.into_iter-key-iterator.ensures.into_iter_gives ∙ c.iter-key-items.ensures.entries in (
      all_left _ _ _ _ _ (ap keys_of all),
      subst (AllByRecursion (λ e. at_name c.args.rows.now e.0 ≡ Some e.1)) (sym all)
          (each_found c.args.rows.now c.iter-key-items.ensures.ordered),
    )

pub loop-key-preserved : goal.loop-key-preserved
loop-key-preserved g c =
    let item_of = g.V.Version.item_of in
    let r = c.args.regulation.now in
    let rows = rows_named item_of c.args.rows.now in
    let all = keys_of c.args.rows.now in
    let item : Text × Option g.row.V.Denot = (c.in-Some.key.now, c.in-Some.version.now) in
    let next : c.loop-key.key-iterator ≡ item ∷ c.next.new.self = search rules in
    let left = subst (AllByRecursion (λ e. at_name c.args.rows.now e.0 ≡ Some e.1)) next c.loop-key.invariant.1 in
    let there = at-kept (row_named item_of) c.in-Some.key.now c.args.rows.now c.iter-key-items.ensures.ordered
    ∙ ap (option_and_then (row_named item_of)) left.0 ∙ sym c.row_named.ensures in (
      one_less r rows c.in-Some.key.now (keys_of c.next.new.self) all c.new-flights.result.items c.loop-key.flights.items _
          (c.in_ok-put_behind.ensures rows there)
          (subst (λ (es : List (Text × Option g.row.V.Denot)). AreLeft r rows (keys_of es) all c.new-flights.result.items c.loop-key.flights.items) next c.loop-key.invariant.0),
      left.1,
    )

behind : (g : given.Over) (c : goal.After-put_in_order g)
    → AreBehind c.args.regulation.now (rows_named g.V.Version.item_of c.args.rows.now) (keys_of c.args.rows.now) c.new-flights.result.items c.loop-key.flights.items
behind g c =
    let none : keys_of c.loop-key.key-iterator ≡ [] = search rules in
    none_left _ _ _ _ _ _ none c.loop-key.invariant.0

pub returns-clause-over : goal.returns-clause-over
returns-clause-over g c =
    let item_of = g.V.Version.item_of in
    let r = c.args.regulation.now in
    let rows = rows_named item_of c.args.rows.now in
    let keys = keys_of c.args.rows.now in
    let sorted : AreInOrder c.args.rows.now = search rules in
    let comps : comps_of c.loop-key.flights.items ≡ comps_under r rows keys =
    (behind g c).comps ∙ ap (λ (fs : List FlightOver). comps_of fs ++ comps_under r rows keys) c.new-flights.ensures.items in
    over_is r rows keys (comps_of c.put_in_order.new.flights.items) (sorted-kept (row_named item_of) c.args.rows.now sorted)
    (named_over item_of r c.args.rows.now sorted) c.put_in_order.ensures.ordered
    (λ d. subst (λ (cs : List Comp). Contains (comps_of c.put_in_order.new.flights.items) d ↔ Contains cs d) comps (c.put_in_order.ensures.same d))

pub returns-clause-rows : goal.returns-clause-rows
returns-clause-rows g c =
    let rows = rows_named g.V.Version.item_of c.args.rows.now in
    c.put_in_order.ensures.rows rows ((behind g c).have_rows (subst (HaveRows rows) (sym c.new-flights.ensures.items) tt))
