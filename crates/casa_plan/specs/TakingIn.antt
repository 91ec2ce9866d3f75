-- inner contracts: flights that stand in a list by their rows
use Rattle.std.specs.Prelude.{List, map}
use Rattle.casa_flight.specs.declared.row.Stance.{Stance}
use Rattle.casa_filing.specs.Text.{Text}
use Rattle.casa_flight.specs.State.{is_governed_by}
use Rattle.casa_flight.specs.Listing.{stance}
use Rattle.casa_list.specs.ByKey.{by_key}
use Rattle.casa_table.specs.declared.asking.FlightOver.{FlightOver}

-- a flight with its row as it stands in the list of a regulation, and flights so by their keys
abbrev pub member_of : Text → FlightOver → Text × Stance
member_of id f = (f.comp.key, stance (is_governed_by id f.row.now) f.row.now.issued f.comp.eto)

abbrev pub stances_of : Text → List FlightOver → List (Text × Stance)
stances_of id flights = by_key (map (member_of id) flights)
