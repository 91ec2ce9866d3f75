use Rattle.std.proofs.Common.{rules, ◌≡◌, [], ap, ◌∙◌}
use Rattle.casa_table.specs.Asking.{due_version}
use Rattle.casa_item.proofs.Gathered.{gathered, all_noted}
use Rattle.casa_table.proofs.Due.{first_due, AreSorted, first_are_all}
use Rattle.casa_table.proofs.asking.Shared+OfFlight+V+FlightIndex.note_waiting.Goals as goal

pub returns-then-not-due : goal.returns-then-not-due
returns-then-not-due g c =
    let sorted : AreSorted c.args.departures.now.keys = search rules in
    let none : first_due c.args.at c.loop-departure.departure-iterator ≡ [] = search rules in
    let before = gathered (due_version g.V.Version.item_of c.args.at) c.args.self.now c.args.found.now.entries in
    all_noted _ _ _ _ _ _ none
    (c.loop-departure.invariant ∙ ap before (first_are_all c.args.at c.args.departures.now.keys sorted))

pub returns : goal.returns
returns g c =
    let sorted : AreSorted c.args.departures.now.keys = search rules in
    let none : first_due c.args.at c.loop-departure.departure-iterator ≡ [] = search rules in
    let before = gathered (due_version g.V.Version.item_of c.args.at) c.args.self.now c.args.found.now.entries in
    all_noted _ _ _ _ _ _ none
    (c.loop-departure.invariant ∙ ap before (first_are_all c.args.at c.args.departures.now.keys sorted))
