-- a regulation closes: from what the code has to what is defined
use Rattle.std.proofs.Common.{◌≡◌, ℕ, List, [], map, sym, ap, ◌∙◌, None, Some}
use Rattle.casa_flight.specs.declared.comp.Comp.{Comp}
use Rattle.casa_filing.specs.declared.regulation.Regulation.{Regulation}
use Rattle.casa_filing.specs.Text.{Text, put, without}
use Rattle.casa_flight.specs.Listing.{Listing}
use Rattle.casa_footprint.specs.Finding.{by_id}
use Rattle.casa_plan_spec.specs.Sight.{Sight, nothing_written, clock_in, regulations_in}
use Rattle.casa_plan_spec.specs.Enter.{with_entries}
use Rattle.casa_plan_spec.specs.Closing.{without_regulation, governed_flights, closing, after_closing}
use Rattle.casa_plan_spec.proofs.Entries.{entries_catalogue}
use Rattle.casa_plan_spec.proofs.TakingIn.{values-by_id}

-- regulations are what is left under identifiers
pub without_as : (all rs : List Regulation) (id : Text) → by_id all ≡ without (by_id rs) id → all ≡ without_regulation id rs
without_as all rs id h = sym (values-by_id all) ∙ ap (map (λ (e : Text × Regulation). e.1)) h

-- the catalogue is written last
pub closing_as : (v : Sight) (id : Text) (l : Listing) (clock : ℕ) (rs : List Regulation) (cs : List Comp)
    → clock ≡ clock_in v → rs ≡ without_regulation id (regulations_in v) → cs ≡ governed_flights l
    → record (with_entries clock rs v (record nothing_written { lists = put [] id None }) cs) { catalogue = Some rs } ≡ after_closing v id l
closing_as v id l clock rs cs clock_is rs_is cs_is =
    sym (entries_catalogue clock rs v (record nothing_written { lists = put [] id None }) (Some rs) cs)
    ∙ (λ i. with_entries (clock_is i) (rs_is i) v (closing id (rs_is i)) (cs_is i))
