-- inner contracts: the name of the fault of a moment
use Rattle.std.specs.Prelude.{ℕ, List, codes}
use Rattle.casa_time.specs.declared.moment.TimeFault.{TimeFault}
use Rattle.casa_time.specs.declared.moment.TimeFault.TheVariants.{OutOfRange}

-- the name of a fault, as programs print it
abbrev pub name_of : TimeFault → List ℕ
name_of OutOfRange = codes "OutOfRange"
