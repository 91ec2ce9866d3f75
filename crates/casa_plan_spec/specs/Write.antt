-- inner contracts: how a flight is written: its row, and how it stands in its lists
use Rattle.std.specs.Prelude.{ℕ, List, [], ◌++◌, map, Option, None, Some, is_some, unwrap_or, if◌then◌else◌}
use Rattle.std.specs.Option.{option_map, option_map_or}
use Rattle.std.specs.List.{filter_map, fold}
use Rattle.casa_filing.specs.declared.regulation.Regulation.{Regulation}
use Rattle.casa_flight.specs.declared.row.Row.{Row}
use Rattle.casa_flight.specs.declared.row.Stance.{Stance}
use Rattle.casa_filing.specs.Text.{Text, at_name, put}
use Rattle.casa_flight.specs.State.{is_governed_by}
use Rattle.casa_flight.specs.Listing.{Listing, stance}
use Rattle.casa_footprint.specs.Finding.{crossed}
use Rattle.casa_plan_spec.specs.Sight.{Sight, Stand, Written, list_in, with_flight}

-- lists by their identifiers, each there or not, and how a flight is to stand in lists: so, or not at all
abbrev pub Lists : Type 0
Lists = List (Text × Option Listing)

abbrev pub Stances : Type 0
Stances = List (Text × Option Stance)

-- these lists, and those in which the flight is to stand so or not at all, each as it is among them or else as it is shown
abbrev pub with_stances : Sight → Text → Lists → Stances → Lists
with_stances v key lists stances =
    fold (λ (ls : Lists) (e : Text × Option Stance).
    put ls e.0 (option_map (λ (l : Listing). with_flight l key e.1) (unwrap_or (at_name ls e.0) (list_in v e.0)))) lists stances

-- the way in which flights are written one after the other: each has its row, or none, and stands so in these lists
abbrev pub write_flight : Sight → Written → Text → Option Row → Stances → Written
write_flight v w key now stances = record w { rows = put w.rows key now; lists = with_stances v key w.lists stances }

-- the regulations to which a flight is subject, with its time over, if there is a flight
abbrev pub crossed_by : List Regulation → Option Row → List (Text × ℕ)
crossed_by rs row = option_map_or (λ (f : Row). crossed f.plan rs) row []

-- a flight stands no longer in the lists that it had and has not now
abbrev pub stances_gone : List (Text × ℕ) → List (Text × ℕ) → Stances
stances_gone had has =
    filter_map (λ (e : Text × ℕ). if is_some (at_name has e.0) then None else Some (e.0, None)) had

-- and it stands in each that it has as it is governed and issued
abbrev pub stances_now : Option Row → List (Text × ℕ) → Stances
stances_now None has = []
stances_now (Some row) has =
    map (λ (e : Text × ℕ). (e.0, Some (stance (is_governed_by e.0 row) row.issued e.1))) has

-- how a flight that stood so and now stands so is to stand in each list that it had or has
abbrev pub stances : List Regulation → Option Row → Option Row → Stances
stances rs was now = stances_gone (crossed_by rs was) (crossed_by rs now) ++ stances_now now (crossed_by rs now)

-- the flight is to stand so in these lists, and in others as is said of them already
abbrev pub with_stands : Text → List (Text × Stand) → Stances → List (Text × Stand)
with_stands key stands stances =
    fold (λ (all : List (Text × Stand)) (e : Text × Option Stance). put all e.0 (key, e.1)) stands stances

-- the way in which the flight of a call is written: it has this row, or none, and is to stand so in these lists
abbrev pub write_stands : Written → Text → Option Row → Stances → Written
write_stands w key now stances = record w { rows = put w.rows key now; stands = with_stands key w.stands stances }
