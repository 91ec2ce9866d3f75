use Rattle.std.proofs.Common.{◌≡◌, List, Option, ◌∷◌, sym, subst, rules, []}
use Rattle.std.specs.Map.{keys_of}
use Rattle.casa_filing.specs.Text.{Text}
use Rattle.casa_table.specs.Flights.{rows_of}
use Rattle.casa_table.proofs.Behind.{AreLeft, one_less, none_left}
use Rattle.casa_table.proofs.asking.Shared+OfFlight+V+FlightIndex.put_changed.Goals as goal

pub loop-key-preserved : goal.loop-key-preserved
loop-key-preserved g c =
    let r = c.args.regulation.now in
    let rows = rows_of g.V.Version.item_of c.args.self.now in
    let all = keys_of c.args.changes.now.entries in
    let item : Text × Option g.row.V.Denot = (c.in-Some.key.now, c.in-Some.field-0-1.now) in
    let next : c.loop-key.key-iterator ≡ item ∷ c.next.new.self = search rules in
    one_less r rows c.in-Some.key.now (keys_of c.next.new.self) all c.args.flights.now.items c.loop-key.flights.items _
    (c.in_ok-put_behind.ensures rows (sym c.row.ensures))
    (subst (λ (es : List (Text × Option g.row.V.Denot)). AreLeft r rows (keys_of es) all c.args.flights.now.items c.loop-key.flights.items) next c.loop-key.invariant)

pub returns : goal.returns
returns g c =
    let none : keys_of c.loop-key.key-iterator ≡ [] = search rules in
    none_left _ _ _ _ _ _ none c.loop-key.invariant
