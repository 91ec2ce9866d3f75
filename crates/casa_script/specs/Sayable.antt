-- to believe: what the type of a label keeps
use Rattle.std.specs.Prelude.{◌<◌, ◌^◌}
use Rattle.casa_script.specs.declared.line.Label.{Label}

-- the numbers of a label, as their types keep them
pub record IsInRange (label : Label) : Type 0 where
  pub position : label.position < 2 ^ 64
  pub desk : label.desk < 2 ^ 32
  pub rules : label.rules < 2 ^ 32
  pub sum : label.sum < 2 ^ 32
