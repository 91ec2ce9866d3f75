use Rattle.std.proofs.Common.{◌≡◌, take}
use Rattle.casa_filing.specs.Text.{Text}
use Rattle.casa_import.specs.Crossings.{is_named}
use Rattle.casa_import.specs.Keyed.{has_key}
use Rattle.casa_import.proofs.crossings.named.Given as goal

abbrev pub invariant-loop-row : goal.invariant-loop-row
invariant-loop-row l = (key : Text) → has_key l.keys key ≡ is_named l.columns.key (take l.row-index l.rows) key
