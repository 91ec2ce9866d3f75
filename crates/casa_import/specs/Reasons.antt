-- to believe: the names of the reasons for which rows are left out, and the columns that they are about
use Rattle.std.specs.Prelude.{ℕ, Option, None, Some, codes}
use Rattle.casa_grid.specs.ProfileFaults.{name_of as profile_fault_name}
use Rattle.casa_filing.specs.Text.{Text}
use Rattle.casa_filing.specs.PlanFaults.{name_of as plan_fault_name}
use Rattle.casa_import.specs.declared.reason.Reason.{Reason}
use Rattle.casa_import.specs.declared.reason.Reason.TheVariants.{Uneven, BadKey, Time, BadTaxi, BadSts, BadLocation, EntersBefore, Plan, Duplicate, BadReg, BadRate, OtherLocation, NotWhole, Profile, TooManyRegulations}
use Rattle.casa_import.specs.Times.{time_fault_name}

abbrev pub name_of : Reason → Text
name_of Uneven = codes "Uneven"
name_of (BadKey _) = codes "BadKey"
name_of (Time fault _) = time_fault_name fault
name_of (BadTaxi _) = codes "BadTaxi"
name_of (BadSts _) = codes "BadSts"
name_of (BadLocation _) = codes "BadLocation"
name_of EntersBefore = codes "EntersBefore"
name_of (Plan fault) = plan_fault_name fault
name_of Duplicate = codes "Duplicate"
name_of (BadReg _) = codes "BadReg"
name_of (BadRate _) = codes "BadRate"
name_of OtherLocation = codes "OtherLocation"
name_of NotWhole = codes "NotWhole"
name_of (Profile fault) = profile_fault_name fault
name_of TooManyRegulations = codes "TooManyRegulations"

-- the column that a reason is about
abbrev pub column_of : Reason → Option ℕ
column_of (BadKey column) = Some column
column_of (Time fault column) = Some column
column_of (BadTaxi column) = Some column
column_of (BadSts column) = Some column
column_of (BadLocation column) = Some column
column_of (BadReg column) = Some column
column_of (BadRate column) = Some column
column_of _ = None
