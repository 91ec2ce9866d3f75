use Rattle.std.proofs.Common.{take}
use Rattle.casa_import.specs.Crossings.{IsRead}
use Rattle.casa_import.specs.Keyed.{has_key}
use Rattle.casa_import.proofs.crossings.read_crossings.Given as goal

abbrev pub invariant-loop-row : goal.invariant-loop-row
invariant-loop-row l = IsRead l.day l.columns (has_key l.named) (take l.row-index l.rows) l.read
