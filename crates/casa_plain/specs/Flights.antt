-- inner contracts: the flight of a row, as it comes over a regulation
use Rattle.std.specs.Prelude.{ℕ, Bool, Option, None, if◌then◌else◌}
use Rattle.std.specs.Option.{option_map}
use Rattle.casa_flight.specs.declared.comp.Comp.{Comp}
use Rattle.casa_filing.specs.declared.regulation.Regulation.{Regulation}
use Rattle.casa_flight.specs.declared.row.Row.{Row}
use Rattle.casa_filing.specs.Text.{Text}
use Rattle.casa_filing.specs.Subject.{subject}

-- the flight as it comes over a regulation, if it is meant and subject to that
abbrev pub flight_if : Bool → Regulation → Text → Row → Option Comp
flight_if is_meant r key row =
    if is_meant then option_map (λ (eto : ℕ). record { eto = eto; key = key }) (subject row.plan r) else None
