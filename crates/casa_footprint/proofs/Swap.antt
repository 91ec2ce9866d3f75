-- Swap
use Rattle.std.proofs.Common.{◌≡◌, false, refl, sym, ap, ◌∙◌, ◌||◌, Option}
use Rattle.std.specs.Option.{option_map_or}
use Rattle.std.proofs.lemmas.Bool.{or_left, or_right, or_parts}
use Rattle.casa_flight.specs.declared.call.Call.TheVariants.{Swap}
use Rattle.casa_flight.specs.declared.row.Row.{Row}
use Rattle.casa_filing.specs.Text.{Text, same_text}
use Rattle.casa_flight.specs.State.{row_of, with_row, is_governed_by}
use Rattle.casa_flight.specs.Steps.{leads, with_issued_time, Exchange, with_exchange}
use Rattle.casa_laws.proofs.Outcomes.{CanExchange, swap_cases}
use Rattle.casa_laws.proofs.Swap.{other_list}
use Rattle.casa_footprint.specs.Items.{ItemName, the_clock, the_catalogue, a_row, a_list, row_or_none, list_or_none}
use Rattle.casa_footprint.specs.Footprint.{governs}
use Rattle.casa_footprint.proofs.Names.{row_in, text_itself}
use Rattle.casa_footprint.proofs.OneFlight.{other_row}
use Rattle.casa_footprint.proofs.Forms.{DecidesReads, Spares, StepSpares}

-- both rows decide which lists govern them
pub swap_reads : (key other : Text) → DecidesReads (Swap key other)
swap_reads key other m n gm gn s the_clock = refl
swap_reads key other m n gm gn s the_catalogue = refl
swap_reads key other m n gm gn s (a_row q) = refl
swap_reads key other m n gm gn s (a_list id) =
    let own : row_of m key ≡ row_of n key = row_in m n key (s (a_row key) (or_left _ _ (text_itself key))) in
    let its : row_of m other ≡ row_of n other = row_in m n other (s (a_row other) (or_right _ _ (text_itself other))) in
    λ i. option_map_or (is_governed_by id) (own i) false || option_map_or (is_governed_by id) (its i) false

pub swap_spares : (key other : Text) → Spares (Swap key other)
swap_spares key other m good i =
    swap_cases m (StepSpares m (Swap key other) i) (λ r h. refl) key other
    (λ row mate cto time can. exchanges (record { key = key; row = row; cto = cto; other = other; mate = mate; time = time }) refl refl can i)
  where
    exchanges : (x : Exchange) → x.key ≡ key → x.other ≡ other → CanExchange m x → (i : ItemName) → StepSpares m (Swap key other) i (leads (with_exchange m x))
    exchanges x k o can the_clock h = refl
    exchanges x k o can the_catalogue h = refl
    exchanges x k o can (a_row q) h =
        let parts = or_parts (same_text key q) (same_text other q) h in
        ap row_or_none
        (other_row (with_row m x.key (with_issued_time x.row x.time)) x.other (with_issued_time x.mate x.cto) q (ap (λ t. same_text t q) o ∙ parts.1)
        ∙ other_row m x.key (with_issued_time x.row x.time) q (ap (λ t. same_text t q) k ∙ parts.0))
    exchanges x k o can (a_list id) h =
        ap list_or_none (other_list m x id good can
        (sym (ap (λ (w : Option Row). option_map_or (is_governed_by id) w false) can.here) ∙ ap (governs m id) k ∙ h))
