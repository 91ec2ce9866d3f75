use Rattle.std.proofs.Common.{◌≡◌, Some, None, sym, ap, ◌∙◌}
use Rattle.std.specs.Option.{option_copied}
use Rattle.casa_flight.specs.declared.row.Row.{Row}
use Rattle.casa_table.proofs.Over.{taken_passings}
use Rattle.casa_table.proofs.flights.FlightIndex.take_out.Goals as goal

pub returns-then-ne : goal.returns-then-ne
returns-then-ne c = λ at there h. record {
  waiting = c.take_departure.ensures at there h.waiting;
  passings = taken_passings c.args.key _ at _ _ (λ row found.
      let same : Some c.in-Some.row.now ≡ Some row = sym (there ∙ ap option_copied c.in-Some.is) ∙ found in
      let row_is : c.in-Some.row.now ≡ row = cc in
      sym (c.via-then-ne.ensures.crossings ∙ ap (λ (r : Row). r.plan.via) row_is)) c.take_passings.ensures h.passings;
}

pub returns-else-ne : goal.returns-else-ne
returns-else-ne c =
    λ at there h. record { waiting = c.take_departure.ensures at there h.waiting; passings = h.passings }

pub returns-in-None : goal.returns-in-None
returns-in-None c = λ at there h. record {
  waiting = c.take_departure.ensures at there h.waiting;
  passings = taken_passings c.args.key _ at _ _ (λ row found.
      let none : None ≡ Some row = sym (there ∙ ap option_copied c.in-None.is)
      ∙ found in cc) c.take_passings-in-None.ensures h.passings;
}
