use Rattle.std.proofs.Common.{◌≡◌, ◌++◌, take}
use Rattle.std.specs.List.{All, flat_map}
use Rattle.casa_traffic.specs.Calls.{file_call}
use Rattle.casa_traffic.specs.Lines.{IsReadAgain, line}
use Rattle.casa_traffic.proofs.lines.push_filings.Given as goal

abbrev pub invariant-loop-plan : goal.invariant-loop-plan
invariant-loop-plan l =
    (l.text.items ≡ l.fn.text.items ++ flat_map (λ x. line (file_call x)) (take l.plan-index l.plans))
    × All (λ x. IsReadAgain (file_call x)) (take l.plan-index l.plans)
