-- to believe: what all regulations of a day cost together
use Rattle.std.specs.Prelude.{◌+◌, length, max}
use Rattle.casa_flight.specs.declared.state.State.{State}
use Rattle.casa_inquiry.specs.declared.summary.Cost.{Cost}
use Rattle.casa_inquiry.specs.Summary.{cost_of_all, lists_told}
use Rattle.casa_difference.specs.declared.totals.Totals.{Totals}

-- how many regulations are open, and what their lists cost together, as the last line of a summary shows it
abbrev pub totals : State → Totals
totals m = record { regulations = length m.regs; cost = cost_of_all (lists_told m) }

-- inner: what two cost together
abbrev pub together : Cost → Cost → Cost
together a b = record {
  slots = a.slots + b.slots;
  governed = a.governed + b.governed;
  issued = a.issued + b.issued;
  forced = a.forced + b.forced;
  over = a.over + b.over;
  delay = a.delay + b.delay;
  longest = max a.longest b.longest;
}
