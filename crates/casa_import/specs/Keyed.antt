-- to believe: keys, and crossings by their keys, as the program keeps them
use Rattle.std.specs.Prelude.{Bool, List, []}
use Rattle.std.specs.BTreeSet.{contains}
use Rattle.std.specs.Cmp.Lexicographic.{slice_cmp}
use Rattle.std.specs.Option.{option_map_or}
use Rattle.std.specs.Ordering.{nat_cmp}
use Rattle.casa_filing.specs.Text.{Text, at_name}
use Rattle.casa_filing.specs.declared.plan.Crossing.{Crossing}
use Rattle.casa_import.specs.declared.crossings.Crossings.{Crossings}
use Rattle.casa_import.specs.declared.crossings.Keys.{Keys}

-- whether a key is there
abbrev pub has_key : Keys → Text → Bool
has_key keys key = contains (slice_cmp nat_cmp) keys.keys key

-- the crossings of a key
abbrev pub flown : Crossings → Text → List Crossing
flown crossings key = option_map_or (λ via. via.items) (at_name crossings.flights.entries key) []
