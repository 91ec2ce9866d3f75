use Rattle.std.proofs.Common.{◌≡◌, take}
use Rattle.std.specs.List.{filter_map}
use Rattle.casa_import.specs.Crossings.{made_of}
use Rattle.casa_import.specs.Regulations.{opening_of}
use Rattle.casa_import.proofs.regulations.openings.Given as goal

abbrev pub invariant-loop-reg : goal.invariant-loop-reg
invariant-loop-reg l = l.openings.items ≡ filter_map (λ reg. made_of (opening_of l.rows reg)) (take l.reg-index l.reg-items)
