-- to believe: the flights that do not stand alike on two days
use Rattle.std.specs.Prelude.{List, map, filter, Bool, true, not}
use Rattle.std.specs.Cmp.Lexicographic.{slice_cmp}
use Rattle.std.specs.List.{list_any}
use Rattle.std.specs.Map.{keys_of}
use Rattle.std.specs.Option.{option_eq}
use Rattle.std.specs.Ordering.{nat_cmp}
use Rattle.std.specs.Set.{sorted_merge}
use Rattle.casa_filing.specs.Text.{Text, same_text}
use Rattle.casa_flight.specs.declared.state.State.{State}
use Rattle.casa_difference.specs.declared.flights.Difference.{Difference}
use Rattle.casa_difference.specs.Standings.{same_standing, standing_in}

-- the keys of the flights of either day, in their order, each once
abbrev pub keys_of_either : State → State → List Text
keys_of_either m n = sorted_merge (slice_cmp nat_cmp) true (keys_of m.rows) (keys_of n.rows)

-- a flight with how it stands on each day
abbrev pub difference : State → State → Text → Difference
difference m n key = record { key = key; base = standing_in m key; variant = standing_in n key }

-- it does not stand alike on both, or one of them alone has it
abbrev pub differs : Difference → Bool
differs d = not (option_eq same_standing d.base d.variant)

-- the flights of either day that do not stand alike on both, in the order of their keys
abbrev pub differences : State → State → List Difference
differences m n = filter differs (map (difference m n) (keys_of_either m n))

-- whether the flight with this key is one of these
abbrev pub is_told : Text → List Difference → Bool
is_told key told = list_any (λ (d : Difference). same_text key d.key) told
