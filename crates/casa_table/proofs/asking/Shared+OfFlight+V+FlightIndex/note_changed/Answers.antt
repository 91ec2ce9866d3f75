use Rattle.std.proofs.Common.{rules, ◌≡◌, []}
use Rattle.std.specs.Map.{keys_of}
use Rattle.casa_item.proofs.Gathered.{all_noted}
use Rattle.casa_table.proofs.asking.Shared+OfFlight+V+FlightIndex.note_changed.Goals as goal

pub returns : goal.returns
returns g c =
    let none : keys_of c.loop-key.key-iterator ≡ [] = search rules in
    all_noted _ _ _ _ _ _ none c.loop-key.invariant
