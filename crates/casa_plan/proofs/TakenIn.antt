-- a regulation takes flights in: from what the code has to what is defined
use Rattle.std.proofs.Common.{◌≡◌, ℕ, List, [], ◌∷◌, map, true, false, refl, sym, ap, ◌∙◌, Option, Some}
use Rattle.std.specs.Option.{option_map_or}
use Rattle.std.specs.List.{AllByRecursion, filter, fold}
use Rattle.casa_grid.specs.declared.period.Period.{Period}
use Rattle.casa_flight.specs.declared.comp.Comp.{Comp}
use Rattle.casa_filing.specs.declared.regulation.Regulation.{Regulation}
use Rattle.casa_flight.specs.declared.row.Row.{Row}
use Rattle.casa_flight.specs.declared.row.Stance.{Stance}
use Rattle.casa_filing.specs.Text.{Text, put}
use Rattle.casa_flight.specs.Listing.{Listing}
use Rattle.casa_flight.specs.Steps.{may_compete, flights_over}
use Rattle.casa_flight.specs.Good.{AreInOrder}
use Rattle.casa_filing.proofs.Entries.{each_found}
use Rattle.casa_footprint.specs.Finding.{by_id}
use Rattle.casa_plan_spec.specs.Sight.{Sight, Written, nothing_written, clock_in, regulations_in, row_in}
use Rattle.casa_plan_spec.specs.Enter.{with_entries}
use Rattle.casa_plan_spec.specs.TakingIn.{with_regulation, list_over, stance_by, stances_by, taking_in}
use Rattle.casa_plan_spec.proofs.Entries.{entries_catalogue}
use Rattle.casa_plan_spec.proofs.ListOver.{each_over}
use Rattle.casa_plan_spec.proofs.Newcomers.{newcomers}
use Rattle.casa_plan_spec.proofs.TakingIn.{values-by_id}
use Rattle.casa_table.specs.declared.asking.FlightOver.{FlightOver}
use Rattle.casa_table.specs.Asking.{HaveRows, comps_of}
use Rattle.casa_plan.specs.TakingIn.{member_of, stances_of}

-- regulations are what is put under identifiers
pub with_as : (all rs : List Regulation) (r : Regulation) → by_id all ≡ put (by_id rs) r.id r → all ≡ with_regulation r rs
with_as all rs r h = sym (values-by_id all) ∙ ap (map (λ (e : Text × Regulation). e.1)) h

-- the catalogue is written last
pub taking_in_as : (v : Sight) (r : Regulation) (profile : List Period) (clock : ℕ) (rs : List Regulation) (over : List Comp) (list : Listing)
    → AreInOrder v.rows → clock ≡ clock_in v → rs ≡ with_regulation r (regulations_in v)
    → over ≡ flights_over (λ (row : Row). true) r v.rows
    → list ≡ record { profile = profile; flights = stances_by r.id (row_in v) over }
    → record (with_entries clock rs v (record nothing_written { lists = put [] r.id (Some list) }) (filter (λ (c : Comp). option_map_or (may_compete clock) (row_in v c.key) false) over)) { catalogue = Some rs } ≡ taking_in v r profile
taking_in_as v r profile clock rs over list sorted clock_is rs_is over_is list_is =
    sym (entries_catalogue clock rs v (record nothing_written { lists = put [] r.id (Some list) }) (Some rs) (filter (λ (c : Comp). option_map_or (may_compete clock) (row_in v c.key) false) over))
    ∙ (λ i. change (clock_is i) (rs_is i) (list_now i) (new_now i))
  where
    change : ℕ → List Regulation → Listing → List Comp → Written
    change clock rs list new = with_entries clock rs v (record nothing_written { catalogue = Some rs; lists = put [] r.id (Some list) }) new

    found : AllByRecursion (λ (e : Text × Row). row_in v e.0 ≡ Some e.1) v.rows
    found = each_found v.rows sorted

    list_now : list ≡ list_over v.rows r profile
    list_now = list_is ∙ (λ i. record { profile = profile; flights = (ap (stances_by r.id (row_in v)) over_is ∙ each_over (row_in v) r v.rows sorted found) i })

    new_now : filter (λ (c : Comp). option_map_or (may_compete clock) (row_in v c.key) false) over ≡ flights_over (may_compete (clock_in v)) r v.rows
    new_now = (λ i. filter (λ (c : Comp). option_map_or (may_compete (clock_is i)) (row_in v c.key) false) (over_is i)) ∙ newcomers (row_in v) (may_compete (clock_in v)) r v.rows found

module _ (v : Sight) (id : Text) where
  -- a flight put by its key among others, as it stands by this row
  abbrev with_stance : List (Text × Stance) → Comp → Option Row → List (Text × Stance)
  with_stance es c row = option_map_or (λ (s : Stance). put es c.key s) (stance_by id c.eto row) es

  stances_from : (es : List (Text × Stance)) (flights : List FlightOver) → HaveRows v.rows flights
      → fold (λ (es : List (Text × Stance)) (e : Text × Stance). put es e.0 e.1) es (map (member_of id) flights)
      ≡ fold (λ (es : List (Text × Stance)) (c : Comp). with_stance es c (row_in v c.key)) es (comps_of flights)
  stances_from es [] h = refl
  stances_from es (f ∷ flights) h =
      stances_from (put es f.comp.key (member_of id f).1) flights h.1
      ∙ ap (λ (row : Option Row). fold (λ (es : List (Text × Stance)) (c : Comp). with_stance es c (row_in v c.key)) (with_stance es f.comp row) (comps_of flights)) (sym h.0)

  -- so flights stand by the rows that they have as by the rows that are shown
  pub stances_shown : (flights : List FlightOver) → HaveRows v.rows flights → stances_of id flights ≡ stances_by id (row_in v) (comps_of flights)
  stances_shown flights h = stances_from [] flights h
