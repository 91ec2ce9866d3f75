-- the texts of the fields' faults
use Rattle.std.proofs.Common.{◌≡◌, ◌++◌, refl}
use Rattle.std.specs.Prelude.{codes}
use Rattle.serde_json.proofs.OnLiterals.{serde_json_on_literals}
use Rattle.casa_wire.specs.declared.fault.Field.{Field}
use Rattle.casa_wire.specs.declared.fault.Field.TheVariants.{Key, Eobt, Taxi, Via, Sts, Reg, Loc, Periods, At, Other}
use Rattle.casa_wire.specs.declared.fault.WireFault.TheVariants.{BadField}
use Rattle.casa_wire.specs.Fields.{field_name}
use Rattle.casa_wire.specs.LineTexts.{fault_text}

pub field_text_is : (field : Field) → fault_text (BadField field) ≡ (codes "{\"fault\":\"BadField\",\"field\":\"" ++ field_name field) ++ codes "\"}"
unfolding serde_json_on_literals
field_text_is Key = refl
field_text_is Eobt = refl
field_text_is Taxi = refl
field_text_is Via = refl
field_text_is Sts = refl
field_text_is Reg = refl
field_text_is Loc = refl
field_text_is Periods = refl
field_text_is At = refl
field_text_is Other = refl
