-- to believe: the names of the members of a command
use Rattle.std.specs.Prelude.{ℕ, List, codes}
use Rattle.casa_wire.specs.declared.fault.Field.{Field}
use Rattle.casa_wire.specs.declared.fault.Field.TheVariants.{Key, Eobt, Taxi, Via, Sts, Reg, Loc, Periods, At, Other}

-- the name of a member in a command line
abbrev pub field_name : Field → List ℕ
field_name Key = codes "key"
field_name Eobt = codes "eobt"
field_name Taxi = codes "taxi"
field_name Via = codes "via"
field_name Sts = codes "sts"
field_name Reg = codes "reg"
field_name Loc = codes "loc"
field_name Periods = codes "periods"
field_name At = codes "at"
field_name Other = codes "other"
