-- to believe: what is wrong with a plan, in the order of the checks
use Rattle.std.specs.Prelude.{ℕ, ◌+◌, List, [], ◌∷◌, length, Bool, false, not, ◌||◌, nat_lt, Option, None, Some, if◌then◌else◌, codes}
use Rattle.std.specs.List.{list_any}
use Rattle.casa_time.specs.Moment.{last_moment}
use Rattle.casa_filing.specs.declared.plan.Crossing.{Crossing}
use Rattle.casa_filing.specs.declared.plan.PlanFault.{PlanFault}
use Rattle.casa_filing.specs.declared.plan.PlanFault.TheVariants.{BadKey, TaxiTooLong, TooManyCrossings, SameLocation, EtoBeforeTakeOff, OutOfRange, NoMemory}
use Rattle.casa_filing.specs.Text.{Text, is_name, same_text}
use Rattle.casa_filing.specs.FlightPlan.{longest_taxi, most_crossings}

-- whether a location is crossed twice
abbrev pub has_twice : List Crossing → Bool
has_twice [] = false
has_twice (c ∷ cs) = list_any (λ (d : Crossing). same_text c.loc d.loc) cs || has_twice cs

-- whether a location is crossed before the take-off
abbrev pub has_early : ℕ → List Crossing → Bool
has_early etot via = list_any (λ (c : Crossing). nat_lt c.eto etot) via

-- the first fault of these, in the order of the checks; memory that is refused is none of them
abbrev pub plan_fault : Text → ℕ → ℕ → List Crossing → Option PlanFault
plan_fault key eobt taxi via =
    if not (is_name key) then Some BadKey
    else (if nat_lt longest_taxi taxi then Some TaxiTooLong
    else (if nat_lt most_crossings (length via) then Some TooManyCrossings
    else (if has_twice via then Some SameLocation
    else (if has_early (eobt + taxi) via then Some EtoBeforeTakeOff
    else (if nat_lt last_moment (eobt + taxi) then Some OutOfRange else None)))))

-- the name of a fault
abbrev pub name_of : PlanFault → List ℕ
name_of BadKey = codes "BadKey"
name_of TaxiTooLong = codes "TaxiTooLong"
name_of TooManyCrossings = codes "TooManyCrossings"
name_of SameLocation = codes "SameLocation"
name_of EtoBeforeTakeOff = codes "EtoBeforeTakeOff"
name_of OutOfRange = codes "OutOfRange"
name_of NoMemory = codes "NoMemory"
