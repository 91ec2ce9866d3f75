-- to believe: what the regulations that rows open have in common
use Rattle.std.specs.Prelude.{◌≤◌, List, length, map}
use Rattle.std.specs.List.{IsDistinct}
use Rattle.casa_filing.specs.Text.{Text, same_text}
use Rattle.casa_import.specs.declared.periods.RegulationRow.{RegulationRow}
use Rattle.casa_import.specs.declared.regulations.Opening.{Opening}
use Rattle.casa_import.specs.Regulations.{openings}

abbrev pub opened : List RegulationRow → List Text
opened rows = map (λ (o : Opening). o.reg) (openings rows)

-- they are as many as may be open at most, and no two have one identifier
pub record MayOpen (regs : List Text) : Type 0 where
  pub few : length regs ≤ 256
  pub apart : IsDistinct same_text regs

-- so it is for all rows
abbrev pub AllMayOpen : Type 0
AllMayOpen = (rows : List RegulationRow) → MayOpen (opened rows)
