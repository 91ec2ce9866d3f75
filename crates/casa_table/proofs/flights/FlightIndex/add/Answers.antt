use Rattle.std.proofs.Common.{subst, sym}
use Rattle.casa_table.specs.Passing.{passings_at, HaveVia}
use Rattle.casa_table.proofs.Due.{more_departures, added_departure}
use Rattle.casa_table.proofs.Over.{more_passings, added_passings, kept_passings}
use Rattle.casa_table.proofs.flights.FlightIndex.add.Goals as goal

pub returns-in_err-add_departure-clause-stays : goal.returns-in_err-add_departure-clause-stays
returns-in_err-add_departure-clause-stays c = λ at h. record {
  waiting = more_departures at _ _ c.add_departure.ensures.stays h.waiting;
  passings = h.passings;
}

pub returns-in_err-add_passings-clause-stays : goal.returns-in_err-add_passings-clause-stays
returns-in_err-add_passings-clause-stays c = λ at h. record {
  waiting = more_departures at _ _ c.add_departure.ensures.stays h.waiting;
  passings = more_passings at _ _ c.add_passings.ensures.stays h.passings;
}

pub returns-in_ok-add_passings-clause-stays : goal.returns-in_ok-add_passings-clause-stays
returns-in_ok-add_passings-clause-stays c = λ at h. record {
  waiting = more_departures at _ _ c.add_departure.ensures.stays h.waiting;
  passings = more_passings at _ _ c.add_passings.ensures.stays h.passings;
}

pub returns-else-not-stands_with-clause-stays : goal.returns-else-not-stands_with-clause-stays
returns-else-not-stands_with-clause-stays c = λ at h. record {
  waiting = more_departures at _ _ c.add_departure.ensures.stays h.waiting;
  passings = h.passings;
}

pub returns-in_ok-add_passings-clause-added : goal.returns-in_ok-add_passings-clause-added
returns-in_ok-add_passings-clause-added c = λ at there h. record {
  waiting =
      added_departure c.args.key c.args.row.now at _ _ c.add_departure.ensures.stays
      c.in_ok-add_departure.ensures.added h.waiting;
  passings = added_passings c.args.key c.args.row.now at _ _ c.add_passings.ensures.stays
      (subst (HaveVia (passings_at c.add_passings.new.passings.entries) c.args.key) c.via.ensures.crossings c.in_ok-add_passings.ensures.added)
      h.passings;
}

pub returns-else-not-stands_with-clause-added : goal.returns-else-not-stands_with-clause-added
returns-else-not-stands_with-clause-added c = λ at there h. record {
  waiting =
      added_departure c.args.key c.args.row.now at _ _ c.add_departure.ensures.stays
      c.in_ok-add_departure.ensures.added h.waiting;
  passings = kept_passings c.args.key c.args.row.now _ at _ there (sym c.if-not-stands_with.ensures) h.passings;
}
