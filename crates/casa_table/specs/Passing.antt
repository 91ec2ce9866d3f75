-- inner contracts: which flights cross a location, by an index
use Rattle.std.specs.Prelude.{◌≡◌, ℕ, List, [], map, Bool, true, Option, None, Some}
use Rattle.std.specs.Option.{option_map_or}
use Rattle.std.specs.List.{list_any, AllByRecursion, filter, filter_map}
use Rattle.std.specs.BTreeMap.Range.{range_contains}
use Rattle.std.specs.declared.ops.Bound.TheVariants.{Included, Excluded}
use Rattle.std.specs.BTreeMap.{is_at}
use Rattle.std.specs.BTreeSet.{BTreeSet}
use Rattle.casa_flight.specs.declared.comp.Comp.{Comp}
use Rattle.casa_filing.specs.declared.plan.Crossing.{Crossing}
use Rattle.casa_filing.specs.declared.regulation.Regulation.{Regulation}
use Rattle.casa_flight.specs.declared.row.Row.{Row}
use Rattle.casa_filing.specs.Text.{Text, at_name}
use Rattle.casa_filing.specs.Subject.{subject}
use Rattle.casa_table.specs.declared.flights.Passing.{Passing}
use Rattle.casa_table.specs.contracts.flights.PassingOrd.TheImpl.{ghosts as passings}

-- the time over of a flight that is subject to a regulation
abbrev pub over_row : Regulation → Row → Option ℕ
over_row r row = subject row.plan r

-- what an index by location has at a location
abbrev pub passings_at : List (Text × BTreeSet Passing) → Text → List Passing
passings_at places loc = option_map_or (λ (s : BTreeSet Passing). s.keys) (at_name places loc) []

-- a crossing of a flight, and whether it is among these
abbrev pub passing : Text → Crossing → Passing
passing key c = record { eto = c.eto; key = Some key }

abbrev pub has_passing : List Passing → Passing → Bool
has_passing ps p = list_any (is_at (passings.cmp p)) ps

-- every passing at a location is there still
abbrev pub HaveMore : (Text → List Passing) → (Text → List Passing) → Type 0
HaveMore ps qs = (loc : Text) (p : Passing) → has_passing (ps loc) p ≡ true → has_passing (qs loc) p ≡ true

-- all these crossings of a flight are among the passings at their locations
abbrev pub HaveVia : (Text → List Passing) → Text → List Crossing → Type 0
HaveVia ps key via = AllByRecursion (λ (c : Crossing). has_passing (ps c.loc) (passing key c) ≡ true) via

-- and so all crossings of each flight; there may be others
abbrev pub HavePassings : (Text → Option Row) → (Text → List Passing) → Type 0
HavePassings row_at ps = (key : Text) (row : Row) → row_at key ≡ Some row → HaveVia ps key row.plan.via

-- of the passings at the location of a regulation, those from its start to before this time, and the keys of passings
abbrev pub at_start : Regulation → Passing
at_start r = record { eto = r.start; key = None }

abbrev pub at_end : ℕ → Passing
at_end t = record { eto = t; key = None }

abbrev pub in_span : Regulation → ℕ → List Passing → List Passing
in_span r t ps = filter (range_contains passings.cmp (Included (at_start r)) (Excluded (at_end t))) ps

abbrev pub names : List Passing → List Text
names ps = filter_map (λ (p : Passing). p.key) ps

-- flights with their times over
abbrev pub comps : List (Text × ℕ) → List Comp
comps es = map (λ (e : Text × ℕ). record { eto = e.1; key = e.0 }) es
