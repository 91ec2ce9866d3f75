-- to believe: who has the slots that a flight waits for, as comma-separated values
use Rattle.std.specs.Prelude.{List, [], ◌∷◌, codes, decimal}
use Rattle.jiff_core.specs.declared.civil.date.Date.{Date}
use Rattle.casa_filing.specs.Text.{Text}
use Rattle.casa_flight.specs.declared.row.Stance.{Stance}
use Rattle.casa_flight.specs.Listing.{eto_as}
use Rattle.casa_flight.specs.Replies.{kind_of}
use Rattle.casa_inquiry.specs.declared.why.Holding.{Holding}
use Rattle.casa_inquiry.specs.declared.why.Reasons.{Reasons}
use Rattle.casa_report.specs.Csv.{Field, csv, or_empty}
use Rattle.casa_report.specs.Moments.{moment_text}
use Rattle.casa_report.specs.Table.{kind_text}

-- nothing of a flight where nobody has the slot
abbrev pub holding_fields : Date → List (Field Holding)
holding_fields day =
    record { title = codes "SLOT"; value = λ holding. decimal holding.slot } ∷
    record { title = codes "BEGIN"; value = λ holding. moment_text day holding.begin } ∷
    record { title = codes "KEY"; value = λ holding. or_empty (λ (e : Text × Stance). e.0) holding.holder } ∷
    record { title = codes "ETO"; value = λ holding. or_empty (λ (e : Text × Stance). moment_text day (eto_as e.1)) holding.holder } ∷
    record { title = codes "KIND"; value = λ holding. or_empty (λ (e : Text × Stance). kind_text (kind_of e.1)) holding.holder } ∷ []

-- a record for each slot that the flight waits for and each flight that has it; none where nothing governs the flight
abbrev pub why_csv : Date → Reasons → Text
why_csv day why = csv (holding_fields day) why.holdings
