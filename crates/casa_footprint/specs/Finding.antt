-- inner contracts: regulations that a plan crosses, and flights that are due, as they are found
use Rattle.std.specs.Prelude.{ℕ, List, map, None, Some, if◌then◌else◌}
use Rattle.std.specs.Option.{option_map}
use Rattle.std.specs.List.{filter_map}
use Rattle.casa_filing.specs.declared.regulation.Regulation.{Regulation}
use Rattle.casa_flight.specs.declared.row.Row.{Row}
use Rattle.casa_filing.specs.Text.{Text}
use Rattle.casa_filing.specs.FlightPlan.{FlightPlan}
use Rattle.casa_filing.specs.Subject.{subject}
use Rattle.casa_flight.specs.Entry.{is_to_issue}

-- the regulations to which a plan is subject, with its time over, in their order
abbrev pub crossed : FlightPlan → List Regulation → List (Text × ℕ)
crossed plan rs = filter_map (λ (r : Regulation). option_map (λ (eto : ℕ). (r.id, eto)) (subject plan r)) rs

-- to believe: the keys of the flights that are governed, due and not issued, in the order of the rows
abbrev pub due_keys : ℕ → List (Text × Row) → List Text
due_keys at rows = filter_map (λ (e : Text × Row). if is_to_issue at e.1 then Some e.0 else None) rows

-- regulations under their identifiers
abbrev pub by_id : List Regulation → List (Text × Regulation)
by_id rs = map (λ (r : Regulation). (r.id, r)) rs
