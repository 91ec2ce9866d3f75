-- to believe: the filing that a row of flights makes, with its crossings, or why the row is left out
use Rattle.std.specs.Prelude.{ℕ, ◌+◌, ◌-◌, ◌==◌, min, nat_le, nat_lt, Bool, ◌&&◌, List, [], ◌∷◌, ◌++◌, length, fold, filter, Option, Some, None, unwrap_or, Result, Ok, Err, if◌then◌else◌}
use Rattle.std.specs.List.{list_any}
use Rattle.jiff_core.specs.declared.civil.date.Date.{Date}
use Rattle.casa_time.specs.Moment.{last_moment}
use Rattle.casa_filing.specs.Text.{Text, same_text}
use Rattle.casa_filing.specs.FlightPlan.{FlightPlan, most_crossings}
use Rattle.casa_filing.specs.PlanFaults.{plan_fault, has_early}
use Rattle.casa_filing.specs.declared.plan.Crossing.{Crossing}
use Rattle.casa_filing.specs.declared.plan.PlanFault.{PlanFault}
use Rattle.casa_import.specs.declared.columns.EntryColumns.{EntryColumns}
use Rattle.casa_import.specs.declared.columns.FlightColumns.{FlightColumns}
use Rattle.casa_import.specs.declared.columns.ImportOptions.{ImportOptions}
use Rattle.casa_import.specs.declared.filing.Stated.{Stated}
use Rattle.casa_import.specs.declared.reason.Reason.{Reason}
use Rattle.casa_import.specs.declared.reason.Reason.TheVariants.{EntersBefore, Plan}
use Rattle.casa_rows.specs.declared.row.Row.{Row}
use Rattle.casa_rows.specs.Fields.{text_in}
use Rattle.casa_import.specs.Fields.{◌>>=◌, even, key_in, location_in, moment_in, entry_in, taxi_in, sts_in}

-- what a row says of the flight itself
unfoldable pub stated_in : Date → FlightColumns → Row → Result Stated Reason
stated_in day columns row = do
  _ ← even columns.width row
  key ← key_in columns.key row
  eobt ← moment_in day columns.eobt row
  taxi ← taxi_in columns.taxi row
  sts ← sts_in columns.sts row
  Ok (record { key = key; eobt = eobt; taxi = taxi; sts = sts })

-- the entry in two columns; none where both fields are empty, and may be
abbrev pub is_empty_entry : EntryColumns → Row → Bool
is_empty_entry columns row =
    columns.may_be_empty && ((length (text_in columns.loc row) == 0) && (length (text_in columns.eto row) == 0))

abbrev pub own_entry : Date → EntryColumns → Row → Result (List Crossing) Reason
own_entry day columns row =
    if is_empty_entry columns row then Ok []
    else (entry_in day columns.loc columns.eto row >>= (λ entry. Ok (entry ∷ [])))

-- the entries of a row itself, in the order of their columns
abbrev pub own_entries : Date → List EntryColumns → Row → Result (List Crossing) Reason
own_entries day [] row = Ok []
own_entries day (columns ∷ more) row = do
  entry ← own_entry day columns row
  entries ← own_entries day more row
  Ok (entry ++ entries)

-- the location from which the flight takes off, where there is such a column
abbrev pub departure_in : Option ℕ → Row → Result (Option Text) Reason
departure_in None row = Ok None
departure_in (Some column) row = location_in column row >>= (λ loc. Ok (Some loc))

-- a location is entered: it stands where it was first named, and has the earliest of its times
abbrev pub enter : List Crossing → Crossing → List Crossing
enter [] entry = entry ∷ []
enter (c ∷ via) entry =
    if same_text c.loc entry.loc then record c { eto = min c.eto entry.eto } ∷ via else c ∷ enter via entry

-- each location once, in the order in which they were first named, at the earliest of its times
abbrev pub earliest : List Crossing → List Crossing
earliest entries = fold enter [] entries

-- the taxi time: the row's own, and else this one, or as much as there is before the earliest entry
abbrev pub shortest : ℕ → ℕ → List Crossing → ℕ
shortest taxi eobt via = fold (λ least (c : Crossing). min least (c.eto - eobt)) taxi via

abbrev pub taxi_of : ℕ → Stated → List Crossing → ℕ
taxi_of taxi stated via = unwrap_or stated.taxi (shortest taxi stated.eobt via)

-- the location from which the flight takes off is entered at the take-off; where that is no moment, the plan has a fault of
-- its own
abbrev pub with_departure : Option Text → ℕ → List Crossing → List Crossing
with_departure None etot via = via
with_departure (Some loc) etot via = if nat_le etot last_moment then enter via (record { loc = loc; eto = etot }) else via

-- of more than 32 crossings those at these locations, where there are any
abbrev pub kept : List Text → List Crossing → List Crossing
kept locations via =
    if nat_lt most_crossings (length via) && nat_lt 0 (length locations)
    then filter (λ (c : Crossing). list_any (λ loc. same_text loc c.loc) locations) via else via

-- a plan, unless it has a fault
abbrev pub faultless : FlightPlan → Option PlanFault → Result FlightPlan Reason
faultless plan None = Ok plan
faultless plan (Some fault) = Err (Plan fault)

abbrev pub filed : Stated → ℕ → List Crossing → Result FlightPlan Reason
filed stated taxi via = faultless (record { key = stated.key; eobt = stated.eobt; taxi = taxi; via = via; sts = stated.sts })
    (plan_fault stated.key stated.eobt taxi via)

-- the plan of a flight that enters these locations
unfoldable pub planned : ImportOptions → Stated → Option Text → List Crossing → Result FlightPlan Reason
planned options stated departure via =
    let taxi = taxi_of options.taxi stated via in
    if has_early stated.eobt via then Err EntersBefore
    else filed stated taxi (kept options.locations.items (with_departure departure (stated.eobt + taxi) via))

-- the filing of a row, with the crossings of its key
unfoldable pub filing_of : ImportOptions → FlightColumns → (Text → List Crossing) → Row → Result FlightPlan Reason
filing_of options columns crossings row = do
  stated ← stated_in options.day columns row
  entries ← own_entries options.day columns.entries.items row
  departure ← departure_in columns.departure row
  planned options stated departure (earliest (crossings stated.key ++ entries))
