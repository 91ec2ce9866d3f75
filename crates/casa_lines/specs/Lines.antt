-- to believe: a call as a command line
use Rattle.std.specs.Prelude.{ℕ, List, [], ◌∷◌, Option, None, Some, codes}
use Rattle.serde_json.specs.Data.{Data, string, object, Members, no_members, put}
use Rattle.serde_json.specs.Written.{compact_text}
use Rattle.casa_grid.specs.declared.period.Period.{Period}
use Rattle.casa_filing.specs.Text.{Text}
use Rattle.casa_filing.specs.FlightPlan.{FlightPlan}
use Rattle.casa_filing.specs.declared.plan.Crossing.{Crossing}
use Rattle.casa_filing.specs.declared.plan.Sts.{Sts}
use Rattle.casa_filing.specs.declared.plan.Sts.TheVariants.{Plain, Head, Sar, Medevac, Ffr, Atfmx}
use Rattle.casa_flight.specs.declared.call.Call.{Call}
use Rattle.casa_flight.specs.declared.call.Call.TheVariants.{File, Amend, Cancel, Revise, Exempt, Show, OpenReg, CloseReg, Rates, List as Listing, Tick, Swap}
use Rattle.casa_wire.specs.declared.fault.Field.{Field}
use Rattle.casa_wire.specs.declared.fault.Field.TheVariants.{Key, Eobt, Taxi, Via, Sts as Status, Reg, Loc, Periods, At, Other}
use Rattle.casa_wire.specs.Fields.{field_name}
use Rattle.casa_wire.specs.LineTexts.{count, list_of, or_null}

-- a member of a JSON object: its name and its value
abbrev pub Member : Type 0
Member = Text × Data

abbrev pub members_with : List Member → Members
members_with [] = no_members
members_with (m ∷ ms) = put m.0 m.1 (members_with ms)

-- the JSON object with these members, which has them in the order of their names
abbrev pub object_with : List Member → Data
object_with members = object (members_with members)

-- the member of a command line
abbrev pub field : Field → Data → Member
field f value = (field_name f, value)

-- the name of a command
abbrev pub command : Text → Member
command name = (codes "cmd", string name)

abbrev pub crossing_data : Crossing → Data
crossing_data c = object_with ((codes "loc", string c.loc) ∷ (codes "eto", count c.eto) ∷ [])

abbrev pub period_data : Period → Data
period_data p = object_with ((codes "from", count p.begin) ∷ (codes "to", count p.until) ∷ (codes "rate", count p.rate) ∷ [])

-- the name of a status; the plain one has none
abbrev pub status_name : Sts → Option Text
status_name Plain = None
status_name Head = Some (codes "HEAD")
status_name Sar = Some (codes "SAR")
status_name Medevac = Some (codes "MEDEVAC")
status_name Ffr = Some (codes "FFR")
status_name Atfmx = Some (codes "ATFMX")

abbrev pub plan_members : FlightPlan → List Member
plan_members plan =
    field Key (string plan.key) ∷
    field Eobt (count plan.eobt) ∷
    field Taxi (count plan.taxi) ∷
    field Via (list_of crossing_data plan.via) ∷
    field Status (or_null string (status_name plan.sts)) ∷ []

-- the members of a call's command line
abbrev pub call_members : Call → List Member
call_members (File plan) = command (codes "file") ∷ plan_members plan
call_members (Amend plan) = command (codes "amend") ∷ plan_members plan
call_members (Cancel key) = command (codes "cancel") ∷ field Key (string key) ∷ []
call_members (Revise key) = command (codes "revise") ∷ field Key (string key) ∷ []
call_members (Exempt key) = command (codes "exempt") ∷ field Key (string key) ∷ []
call_members (Show key) = command (codes "show") ∷ field Key (string key) ∷ []
call_members (OpenReg reg loc periods) =
    command (codes "open") ∷
    field Reg (string reg) ∷
    field Loc (string loc) ∷
    field Periods (list_of period_data periods) ∷ []
call_members (CloseReg reg) = command (codes "close") ∷ field Reg (string reg) ∷ []
call_members (Rates reg periods) =
    command (codes "rates") ∷
    field Reg (string reg) ∷
    field Periods (list_of period_data periods) ∷ []
call_members (Listing reg) = command (codes "list") ∷ field Reg (string reg) ∷ []
call_members (Tick at) = command (codes "tick") ∷ field At (count at) ∷ []
call_members (Swap key other) = command (codes "swap") ∷ field Key (string key) ∷ field Other (string other) ∷ []

-- a call as a command line, in compact form and with no line end
abbrev pub call_text : Call → List ℕ
call_text call = compact_text (object_with (call_members call))
