use Rattle.std.proofs.Common.{◌≡◌, List, Option, ◌∷◌, sym, ap, ◌∙◌, subst, rules, []}
use Rattle.std.specs.List.{cons_option}
use Rattle.casa_filing.specs.Text.{Text}
use Rattle.casa_table.specs.Flights.{rows_of}
use Rattle.casa_table.specs.Passing.{in_span, names}
use Rattle.casa_table.proofs.Behind.{AreLeft, one_less, none_left}
use Rattle.casa_table.proofs.Over.{forward}
use Rattle.casa_table.proofs.asking.Shared+OfFlight+V+FlightIndex.put_span.Goals as goal

pub range-passing-items-requires : goal.range-passing-items-requires
range-passing-items-requires g c = forward c.args.regulation.now c.args.end c.requires

pub loop-passing-preserved : goal.loop-passing-preserved
loop-passing-preserved g c =
    let r = c.args.regulation.now in
    let rows = rows_of g.V.Version.item_of c.args.self.now in
    let all = names (in_span r c.args.end c.args.there.now.keys) in
    let next : c.loop-passing.passing-iterator ≡ c.in-Some.passing.now ∷ c.next.new.self = search rules in
    let left : names c.loop-passing.passing-iterator ≡ c.in-Some-key.key ∷ names c.next.new.self =
    ap names next ∙ ap (λ (o : Option Text). cons_option o (names c.next.new.self)) c.in-Some-key.is in
    one_less r rows c.in-Some-key.key (names c.next.new.self) all c.args.flights.now.items c.loop-passing.flights.items _
    (c.in_ok-put_behind.ensures rows (sym c.row.ensures))
    (subst (λ (ks : List Text). AreLeft r rows ks all c.args.flights.now.items c.loop-passing.flights.items) left c.loop-passing.invariant)

pub returns : goal.returns
returns g c =
    let none : names c.loop-passing.passing-iterator ≡ [] = search rules in
    none_left _ _ _ _ _ _ none c.loop-passing.invariant
