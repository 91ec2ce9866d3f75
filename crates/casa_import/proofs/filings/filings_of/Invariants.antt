use Rattle.std.proofs.Common.{◌≡◌, take}
use Rattle.casa_import.specs.Filings.{outcome, outcome_of}
use Rattle.casa_import.specs.Keyed.{flown}
use Rattle.casa_import.specs.Taking.{IsKeyed}
use Rattle.casa_import.proofs.filings.filings_of.Given as goal

abbrev pub invariant-loop-row : goal.invariant-loop-row
invariant-loop-row l = (outcome_of l.filings ≡ outcome l.options l.columns (flown l.crossings) (take l.row-index l.rows))
    × IsKeyed l.filings l.keys
