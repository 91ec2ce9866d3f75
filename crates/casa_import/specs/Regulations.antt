-- to believe: the regulations that rows open, and the rows that are left out
use Rattle.std.specs.Prelude.{ℕ, ◌++◌, ◌∷◌, Bool, false, not, ◌||◌, List, [], map, filter, fold, take, find, Option, None, Some, Result, Ok, Err, is_ok, if◌then◌else◌}
use Rattle.std.specs.List.{list_all, list_any, filter_map}
use Rattle.jiff_core.specs.declared.civil.date.Date.{Date}
use Rattle.casa_grid.specs.declared.period.Period.{Period}
use Rattle.casa_grid.specs.declared.profile.ProfileFault.{ProfileFault}
use Rattle.casa_grid.specs.declared.profile.ProfileFault.TheVariants.{NoPeriods}
use Rattle.casa_grid.specs.ProfileFaults.{profile_fault}
use Rattle.casa_filing.specs.Text.{Text, same_text}
use Rattle.casa_import.specs.declared.columns.RegulationColumns.{RegulationColumns}
use Rattle.casa_import.specs.declared.periods.RegulationPeriod.{RegulationPeriod}
use Rattle.casa_import.specs.declared.periods.RegulationRow.{RegulationRow}
use Rattle.casa_import.specs.declared.regulations.Opening.{Opening}
use Rattle.casa_import.specs.declared.reason.LeftOut.{LeftOut}
use Rattle.casa_import.specs.declared.reason.Reason.{Reason}
use Rattle.casa_import.specs.declared.reason.Reason.TheVariants.{OtherLocation, NotWhole, Profile, TooManyRegulations}
use Rattle.casa_rows.specs.declared.row.Row.{Row}
use Rattle.casa_import.specs.Crossings.{made_of}
use Rattle.casa_import.specs.Periods.{said_row}

-- whether a row is of a regulation, be it left out or not; whether a period is
abbrev pub names : Text → Result Text Reason → Bool
names reg (Ok named) = same_text named reg
names reg (Err reason) = false

abbrev pub is_of : Text → RegulationRow → Bool
is_of reg row = names reg row.reg

abbrev pub is_period_of : Text → RegulationPeriod → Bool
is_period_of reg p = same_text p.reg reg

-- the periods that rows say, in the order of the file
abbrev pub periods_said : List RegulationRow → List RegulationPeriod
periods_said rows = filter_map (λ (row : RegulationRow). made_of row.said) rows

-- the first period of a regulation
abbrev pub first_of : List RegulationPeriod → Text → Option RegulationPeriod
first_of said reg = find (is_period_of reg) said

-- a period is left out where the first one of its regulation is at another location
abbrev pub at_location_of : Option RegulationPeriod → RegulationPeriod → Result RegulationPeriod Reason
at_location_of None p = Ok p
at_location_of (Some first) p = if same_text p.loc first.loc then Ok p else Err OtherLocation

abbrev pub at_its_location : List RegulationPeriod → Result RegulationPeriod Reason → Result RegulationPeriod Reason
at_its_location said (Ok p) = at_location_of (first_of said p.reg) p
at_its_location said (Err reason) = Err reason

abbrev pub judged_row : List RegulationPeriod → RegulationRow → RegulationRow
judged_row said row = record row { said = at_its_location said row.said }

abbrev pub judged : List RegulationRow → List RegulationRow
judged rows = map (judged_row (periods_said rows)) rows

-- the identifiers of periods, in the order of their first ones
abbrev pub and_reg : List Text → Text → List Text
and_reg regs reg = if list_any (λ known. same_text known reg) regs then regs else regs ++ reg ∷ []

abbrev pub regs_of : List RegulationPeriod → List Text
regs_of said = fold (λ (regs : List Text) (p : RegulationPeriod). and_reg regs p.reg) [] said

-- whether no row of a regulation is left out
abbrev pub is_whole : List RegulationRow → Text → Bool
is_whole rows reg = list_all (λ (row : RegulationRow). not (is_of reg row) || is_ok row.said) rows

abbrev pub periods_of : List RegulationPeriod → Text → List Period
periods_of said reg = map (λ (p : RegulationPeriod). p.period) (filter (is_period_of reg) said)

-- what a regulation opens with these periods, if they make a profile
abbrev pub with_profile : Text → Text → List Period → Option ProfileFault → Result Opening Reason
with_profile reg loc periods None = Ok (record { reg = reg; loc = loc; profile = periods })
with_profile reg loc periods (Some fault) = Err (Profile fault)

abbrev pub opening_from : Text → List Period → Option RegulationPeriod → Result Opening Reason
opening_from reg periods None = Err (Profile NoPeriods)
opening_from reg periods (Some first) = with_profile reg first.loc periods (profile_fault periods)

-- what the rows of a regulation open, if none is left out
abbrev pub opening_of : List RegulationRow → Text → Result Opening Reason
opening_of rows reg =
    if is_whole rows reg then opening_from reg (periods_of (periods_said rows) reg) (first_of (periods_said rows) reg) else Err NotWhole

-- the first 256 of those that can be opened, in the order of their first rows
abbrev pub openings : List RegulationRow → List Opening
openings rows = take 256 (filter_map (λ reg. made_of (opening_of rows reg)) (regs_of (periods_said rows)))

-- why a regulation is not among them
abbrev pub or_too_many : Result Opening Reason → Reason
or_too_many (Ok opening) = TooManyRegulations
or_too_many (Err reason) = reason

-- why a row is left out
abbrev pub reason_of : List RegulationRow → List Opening → Result RegulationPeriod Reason → Option Reason
reason_of rows opened (Ok p) = if list_any (λ (o : Opening). same_text o.reg p.reg) opened then None else Some (or_too_many (opening_of rows p.reg))
reason_of rows opened (Err reason) = Some reason

abbrev pub left_out_for : ℕ → Option Reason → Option LeftOut
left_out_for line None = None
left_out_for line (Some reason) = Some (record { line = line; reason = reason })

abbrev pub left_out : List RegulationRow → List Opening → RegulationRow → Option LeftOut
left_out rows opened row = left_out_for row.line (reason_of rows opened row.said)

abbrev pub rows_left_out : List RegulationRow → List Opening → List LeftOut
rows_left_out rows opened = filter_map (left_out rows opened) rows

-- the rows of a file, each with what it says, or why it is left out by itself
abbrev pub judged_rows : Date → RegulationColumns → List Row → List RegulationRow
judged_rows day columns rows = judged (map (said_row day columns) rows)
