-- to believe: calls that are answered again
use Rattle.std.specs.Prelude.{List, flat_map}
use Rattle.casa_interleavings.specs.declared.event.Event.{Event}
use Rattle.casa_interleavings.specs.Scenes.{turn}

-- worker 0 answers these calls again: it reads, computes and commits each of them, one after the other
abbrev pub again : {C : Type 0} → List C → List (Event C)
again calls = flat_map (turn 0) calls
