-- inner contracts: a regulation that takes flights in, by what a view shows
use Rattle.std.specs.Prelude.{ℕ, List, [], map, Option, Some}
use Rattle.std.specs.Option.{option_map, option_map_or}
use Rattle.std.specs.List.{fold}
use Rattle.casa_grid.specs.declared.period.Period.{Period}
use Rattle.casa_flight.specs.declared.comp.Comp.{Comp}
use Rattle.casa_filing.specs.declared.regulation.Regulation.{Regulation}
use Rattle.casa_flight.specs.declared.row.Row.{Row}
use Rattle.casa_flight.specs.declared.row.Stance.{Stance}
use Rattle.casa_filing.specs.Text.{Text, put}
use Rattle.casa_flight.specs.State.{is_governed_by}
use Rattle.casa_flight.specs.Listing.{Listing, filter_map_values, stance, stance_over}
use Rattle.casa_flight.specs.Steps.{may_compete, flights_over}
use Rattle.casa_footprint.specs.Finding.{by_id}
use Rattle.casa_plan_spec.specs.Sight.{Sight, Written, nothing_written, clock_in, regulations_in}
use Rattle.casa_plan_spec.specs.Enter.{with_entries}

-- the regulations with this one: one more, or in place of that with its identifier
abbrev pub with_regulation : Regulation → List Regulation → List Regulation
with_regulation r rs = map (λ (e : Text × Regulation). e.1) (put (by_id rs) r.id r)

-- the list of a regulation with this profile: each flight that is subject to it, as it is governed and issued
abbrev pub list_over : List (Text × Row) → Regulation → List Period → Listing
list_over rows r profile = record { profile = profile; flights = filter_map_values (stance_over r) rows }

-- how a flight stands at its time over in the list of a regulation, by its row if there is one
abbrev pub stance_by : Text → ℕ → Option Row → Option Stance
stance_by id eto row = option_map (λ (f : Row). stance (is_governed_by id f) f.issued eto) row

-- flights by keys, each as it stands there by its row
abbrev pub stances_by : Text → (Text → Option Row) → List Comp → List (Text × Stance)
stances_by id row cs =
    fold (λ (flights : List (Text × Stance)) (c : Comp).
    option_map_or (λ (s : Stance). put flights c.key s) (stance_by id c.eto (row c.key)) flights) [] cs

-- the catalogue and the list of a regulation that opens or ends later
abbrev pub widened : Sight → Regulation → List Period → Written
widened v r profile = record nothing_written {
  catalogue = Some (with_regulation r (regulations_in v));
  lists = put [] r.id (Some (list_over v.rows r profile));
}

-- and then the flights enter that nothing governs and that may compete
abbrev pub taking_in : Sight → Regulation → List Period → Written
taking_in v r profile =
    with_entries (clock_in v) (with_regulation r (regulations_in v)) v (widened v r profile)
    (flights_over (may_compete (clock_in v)) r v.rows)
