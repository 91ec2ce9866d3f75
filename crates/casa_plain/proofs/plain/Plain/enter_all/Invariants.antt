use Rattle.std.proofs.Common.{◌≡◌, drop}
use Rattle.casa_flight.specs.Entry.{enter_all}
use Rattle.casa_plain.proofs.plain.Plain.enter_all.Given as goal

abbrev pub invariant-loop-comp : goal.invariant-loop-comp
invariant-loop-comp l = enter_all l.self (drop l.comp-index l.comps) ≡ enter_all l.initial.self l.comps
