use Rattle.std.proofs.Common.{◌≡◌, ◌++◌, take}
use Rattle.casa_wire.specs.Parts.{more_text}
use Rattle.casa_compare.specs.CompareJson.{difference_data}
use Rattle.casa_compare.proofs.figures_json.push_more.Given as goal

abbrev pub invariant-loop-flight : goal.invariant-loop-flight
invariant-loop-flight l = l.out.items ≡ l.fn.out.items ++ more_text difference_data (take l.flight-index l.flights)
