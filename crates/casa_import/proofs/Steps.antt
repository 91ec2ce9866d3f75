-- a filing step by step
use Rattle.std.proofs.Common.{◌≡◌, ◌∙◌, ◌++◌, List, [], Option, Result, Ok, Err, sym, ap}
use Rattle.std.proofs.lemmas.List.Sums.{fold-append}
use Rattle.casa_filing.specs.Text.{Text}
use Rattle.casa_filing.specs.FlightPlan.{FlightPlan}
use Rattle.casa_filing.specs.declared.plan.Crossing.{Crossing}
use Rattle.casa_import.specs.declared.columns.FlightColumns.{FlightColumns}
use Rattle.casa_import.specs.declared.columns.ImportOptions.{ImportOptions}
use Rattle.casa_import.specs.declared.filing.Stated.{Stated}
use Rattle.casa_import.specs.declared.reason.Reason.{Reason}
use Rattle.casa_rows.specs.declared.row.Row.{Row}
use Rattle.casa_import.specs.Fields.{◌>>=◌}
use Rattle.casa_import.specs.Filing.{departure_in, earliest, enter, filing_of, own_entries, planned, stated_in}
use Rattle.casa_import.specs.Taking.{and_entered}

abbrev with_entries : ImportOptions → FlightColumns → (Text → List Crossing) → Row → Stated → List Crossing → Result FlightPlan Reason
with_entries options columns crossings row stated entries =
    departure_in columns.departure row >>= (λ departure. planned options stated departure (earliest (crossings stated.key ++ entries)))

-- the crossings first, and then the entries of the row
with_all : (options : ImportOptions) (columns : FlightColumns) (crossings : Text → List Crossing) (row : Row) (stated : Stated) (departure : Option Text) (via : List Crossing)
    → departure_in columns.departure row ≡ Ok departure → (said : Result (List Crossing) Reason) → and_entered (earliest (crossings stated.key)) said ≡ Ok via
    → (said >>= with_entries options columns crossings row stated) ≡ planned options stated departure via
with_all options columns crossings row stated departure via at (Ok entries) e =
    let all : earliest (crossings stated.key ++ entries) ≡ via = fold-append enter [] (crossings stated.key) entries ∙ (cc) in
    ap (λ r. r >>= (λ d. planned options stated d (earliest (crossings stated.key ++ entries)))) at ∙ ap (planned options stated departure) all
with_all options columns crossings row stated departure via at (Err reason) e = absurd (cc)

pub filing-of_steps : (options : ImportOptions) (columns : FlightColumns) (crossings : Text → List Crossing) (row : Row) (stated : Stated) (departure : Option Text) (via : List Crossing)
    → Ok stated ≡ stated_in options.day columns row
    → and_entered (earliest (crossings stated.key)) (own_entries options.day columns.entries.items row) ≡ Ok via
    → Ok departure ≡ departure_in columns.departure row
    → planned options stated departure via ≡ filing_of options columns crossings row
unfolding filing_of
filing-of_steps options columns crossings row stated departure via first own at =
    sym (with_all options columns crossings row stated departure via (sym at) (own_entries options.day columns.entries.items row) own)
    ∙ ap (λ r. r >>= (λ s. own_entries options.day columns.entries.items row >>= with_entries options columns crossings row s)) first
