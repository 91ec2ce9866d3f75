use Rattle.std.proofs.Common.{◌≡◌, take}
use Rattle.casa_import.specs.Regulations.{regs_of}
use Rattle.casa_import.proofs.regulations.regs_of.Given as goal

abbrev pub invariant-loop-period : goal.invariant-loop-period
invariant-loop-period l = l.regs.items ≡ regs_of (take l.period-index l.periods)
