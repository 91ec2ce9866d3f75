use Rattle.std.proofs.Common.{◌≡◌, ◌++◌, take}
use Rattle.std.specs.List.{All, flat_map}
use Rattle.casa_traffic.specs.Calls.{open_call}
use Rattle.casa_traffic.specs.Lines.{IsReadAgain, line}
use Rattle.casa_traffic.proofs.lines.push_openings.Given as goal

abbrev pub invariant-loop-opening : goal.invariant-loop-opening
invariant-loop-opening l =
    (l.text.items ≡ l.fn.text.items ++ flat_map (λ x. line (open_call x)) (take l.opening-index l.openings))
    × All (λ x. IsReadAgain (open_call x)) (take l.opening-index l.openings)
