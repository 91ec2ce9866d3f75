-- to believe: a regulation's list: who competes, places, calculated times, delays
use Rattle.std.specs.Prelude.{ℕ, ◌+◌, ◌-◌, List, [], length, Bool, true, false, not, ◌&&◌, ◌||◌, ◌==◌, nat_lt, Option, None, Some, unwrap_or}
use Rattle.std.specs.Option.{option_map, option_map_or, option_and_then}
use Rattle.std.specs.List.{find, filter_map, fold, insert, position}
use Rattle.std.specs.Cmp.Lexicographic.{slice_cmp}
use Rattle.std.specs.Ordering.{nat_cmp, is_lt}
use Rattle.casa_grid.specs.declared.period.Period.{Period}
use Rattle.casa_grid.specs.declared.slot.Place.{Place}
use Rattle.casa_grid.specs.declared.slot.Place.TheVariants.{Over}
use Rattle.casa_grid.specs.Profile.{end_of}
use Rattle.casa_grid.specs.Slots.{slots}
use Rattle.casa_grid.specs.TimeOver.{cto}
use Rattle.casa_flight.specs.declared.comp.Comp.{Comp}
use Rattle.casa_flight.specs.declared.comp.Assigned.{Assigned}
use Rattle.casa_filing.specs.declared.regulation.Measure.{Measure}
use Rattle.casa_filing.specs.declared.regulation.Regulation.{Regulation}
use Rattle.casa_flight.specs.declared.row.Row.{Row}
use Rattle.casa_flight.specs.declared.row.Stance.{Stance}
use Rattle.casa_flight.specs.declared.row.Stance.TheVariants.{Competing, Issued, Forced}
use Rattle.casa_flight.specs.declared.state.State.{State}
use Rattle.casa_filing.specs.Text.{Text, same_text, at_name}
use Rattle.casa_filing.specs.FlightPlan.{etot}
use Rattle.casa_filing.specs.Subject.{regulation, subject}
use Rattle.casa_flight.specs.State.{measure_of, is_governed_by}
use Rattle.casa_flight.specs.Assignment.{Occupancy, assignment}

-- a regulation's slot allocation list: its profile, and how each flight that is subject to it stands in it, by keys. It
-- holds no slot: places follow from it
pub record Listing : Type 0 where
  pub profile : List Period
  pub flights : List (Text × Stance)

-- a governed flight competes until it is issued; a flight that another regulation governs, or none, is forced (manual)
abbrev pub stance : Bool → Option ℕ → ℕ → Stance
stance true None eto = Competing eto
stance true (Some cto) eto = Issued eto cto
stance false issued eto = Forced eto

-- how a flight stands in the list of a regulation, if it is subject to it
abbrev pub stance_in : Text → Measure → Row → Option Stance
stance_in id measure row =
    option_map (stance (is_governed_by id row) row.issued) (subject row.plan (regulation id measure))

-- the same, by the regulation as the catalogue has it
abbrev pub stance_over : Regulation → Row → Option Stance
stance_over r row = option_map (stance (is_governed_by r.id row) row.issued) (subject row.plan r)

-- the values that f gives of the entries, under their names
abbrev pub filter_map_values : {X Y : Type 0} → (X → Option Y) → List (Text × X) → List (Text × Y)
filter_map_values {X} {Y} f es = filter_map (λ (e : Text × X). option_map (λ (y : Y). (e.0, y)) (f e.1)) es

abbrev pub listing : List (Text × Row) → Text → Measure → Listing
listing rows id measure = record { profile = measure.profile; flights = filter_map_values (stance_in id measure) rows }

-- the list of an open regulation
abbrev pub list_of : State → Text → Option Listing
list_of m id = option_map (listing m.rows id) (measure_of m id)

-- x put before the first element that does not precede it, and so a list in order
abbrev pub insert_sorted : {X : Type 0} → (X → X → Bool) → X → List X → List X
insert_sorted precedes x xs = insert xs (unwrap_or (position (λ y. not (precedes y x)) xs) (length xs)) x

abbrev pub sorted_by : {X : Type 0} → (X → X → Bool) → List X → List X
sorted_by precedes xs = fold (λ ys x. insert_sorted precedes x ys) [] xs

-- first planned comes first: by time over, and by key among equal times (manual; ties: profile)
abbrev pub is_before : Comp → Comp → Bool
is_before a b = nat_lt a.eto b.eto || ((a.eto == b.eto) && is_lt (slice_cmp nat_cmp a.key b.key))

abbrev pub competitor : Text → Stance → Option Comp
competitor key (Competing eto) = Some (record { eto = eto; key = key })
competitor key (Issued eto cto) = None
competitor key (Forced eto) = None

-- the competitors of a list, in their order: the flights that its regulation governs and that are not issued
abbrev pub competitors : Listing → List Comp
competitors l = sorted_by is_before (filter_map (λ (e : Text × Stance). competitor e.0 e.1) l.flights)

abbrev pub issued_cto : Stance → Option ℕ
issued_cto (Competing eto) = None
issued_cto (Issued eto cto) = Some cto
issued_cto (Forced eto) = None

abbrev pub occupancy : Listing → Occupancy
occupancy l = record { slots = slots l.profile; issued = filter_map (λ (e : Text × Stance). issued_cto e.1) l.flights }

-- the places in a list
abbrev pub places : Listing → List Assigned
places l = assignment (occupancy l) (competitors l)

abbrev pub place_of : Listing → Text → Place
place_of l key = option_map_or (λ (a : Assigned). a.place) (find (λ (a : Assigned). same_text key a.comp.key) (places l)) Over

abbrev pub stance_of : Listing → Text → Option Stance
stance_of l key = at_name l.flights key

abbrev pub eto_as : Stance → ℕ
eto_as (Competing eto) = eto
eto_as (Issued eto cto) = eto
eto_as (Forced eto) = eto

-- the calculated time over of a flight that stands so: that of its place, or the issued one (manual)
abbrev pub cto_as : Listing → Text → Stance → ℕ
cto_as l key (Competing eto) = cto (slots l.profile) (end_of l.profile) eto (place_of l key)
cto_as l key (Issued eto cto) = cto
cto_as l key (Forced eto) = eto

abbrev pub cto_of : Listing → Text → Option ℕ
cto_of l key = option_map (cto_as l key) (stance_of l key)

-- calculated less estimated time over (manual)
abbrev pub delay_in : Listing → Text → ℕ
delay_in l key = option_map_or (λ (s : Stance). cto_as l key s - eto_as s) (stance_of l key) 0

-- the list of the regulation that governs a flight
abbrev pub governing_list : State → Row → Option Listing
governing_list m row = option_and_then (list_of m) row.governing

-- a flight's delay is the one that it has in its governing list, and none without one (manual)
abbrev pub delay_of : State → Text → Row → ℕ
delay_of m key row = option_map_or (λ (l : Listing). delay_in l key) (governing_list m row) 0

-- the calculated take-off time (manual)
abbrev pub ctot_of : State → Text → Row → ℕ
ctot_of m key row = etot row.plan + delay_of m key row
