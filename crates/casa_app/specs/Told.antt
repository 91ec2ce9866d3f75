-- to believe: what is told of a reply that tells of a fault or of a refusal, by what it is the reply to
use Rattle.std.specs.Prelude.{◌≡◌, ℕ, List, [], ◌∷◌, ◌++◌}
use Rattle.casa_wire.specs.declared.fault.WireFault.{WireFault}
use Rattle.casa_wire.specs.declared.fault.WireFault.TheVariants.{NotJson, NoCommand, BadField, NoMemory}
use Rattle.casa_wire.specs.Faults.{wire_fault_name}
use Rattle.casa_wire.specs.Fields.{field_name}
use Rattle.casa_app.specs.Remarks.{head, remark_on, told}

-- the fault's name, and the member's behind it
abbrev pub fault_told : WireFault → List ℕ
fault_told NotJson = wire_fault_name NotJson
fault_told NoCommand = wire_fault_name NoCommand
fault_told (BadField field) = wire_fault_name (BadField field) ++ 32 ∷ field_name field
fault_told NoMemory = wire_fault_name NoMemory

-- a line with this reply has a remark, which tells this text
pub record IsTold (reply text : List ℕ) : Type 0 where
  pub remark : (number : ℕ) → remark_on number (head reply) ≡ record { number = number; reply = reply } ∷ []
  pub text_is : told reply ≡ text
