-- the delays that lists tell are those that the flights have
use Rattle.std.proofs.Common.{◌≡◌, ◌+◌, ◌-◌, List, [], ◌∷◌, ◌++◌, map, refl, ap, ◌∙◌, Option, Some, arith}
use Rattle.std.proofs.lemmas.List.Elements.{filter-append}
use Rattle.std.proofs.lemmas.List.Sums.{sum_by-append, sum_by-cons}
use Rattle.std.specs.List.{AllByRecursion, filter, sum_by}
use Rattle.std.specs.Option.{option_map_or}
use Rattle.casa_filing.specs.declared.regulation.Measure.{Measure}
use Rattle.casa_flight.specs.declared.reply.ListReply.{ListReply}
use Rattle.casa_flight.specs.declared.reply.ListRow.{ListRow}
use Rattle.casa_flight.specs.declared.row.Stance.{Stance}
use Rattle.casa_flight.specs.declared.row.Stance.TheVariants.{Competing, Issued, Forced}
use Rattle.casa_flight.specs.declared.state.State.{State}
use Rattle.casa_filing.specs.Text.{Text}
use Rattle.casa_flight.specs.Good.{AreInOrder}
use Rattle.casa_flight.specs.Listing.{Listing, cto_as, delay_in, eto_as, sorted_by, listing, stance_in, stance_of}
use Rattle.casa_flight.specs.Replies.{is_row_before, kind_of, list_reply, list_rows, row_in}
use Rattle.casa_filing.specs.Subject.{regulation}
use Rattle.casa_filing.proofs.Entries.{each_found}
use Rattle.casa_laws.proofs.Kept.{sorted-kept}
use Rattle.casa_inquiry.proofs.Ordered.{delays-in_order}
use Rattle.casa_inquiry.specs.Summary.{delay, delays_in, governs, is_governed, lists_told, rows_of, total_delay}

-- the delays of some flights of a list, as rows and as the flights have them
shown_delays : (m : State) (l : Listing) (es : List (Text × Stance)) → AllByRecursion (λ (e : Text × Stance). stance_of l e.0 ≡ Some e.1) es
    → sum_by delay (filter is_governed (map (λ (e : Text × Stance). row_in m l e.0 e.1) es))
    ≡ sum_by (λ (e : Text × Stance). delay_in l e.0) (filter (λ (e : Text × Stance). governs (kind_of e.1)) es)
shown_delays m l [] h = refl
shown_delays m l ((key, Competing eto) ∷ es) h =
    let rows : List ListRow = filter is_governed (map (λ (e : Text × Stance). row_in m l e.0 e.1) es) in
    let flights : List (Text × Stance) = filter (λ (e : Text × Stance). governs (kind_of e.1)) es in
    let here : delay_in l key ≡ cto_as l key (Competing eto) - eto =
    ap (λ (o : Option Stance). option_map_or (λ (s : Stance). cto_as l key s - eto_as s) o 0) h.0 in
    omega (
      arith,
      sum_by-cons delay (row_in m l key (Competing eto)) rows,
      sum_by-cons (λ (e : Text × Stance). delay_in l e.0) (key, Competing eto) flights,
      here,
      shown_delays m l es h.1,
    )
shown_delays m l ((key, Issued eto cto) ∷ es) h =
    let rows : List ListRow = filter is_governed (map (λ (e : Text × Stance). row_in m l e.0 e.1) es) in
    let flights : List (Text × Stance) = filter (λ (e : Text × Stance). governs (kind_of e.1)) es in
    let here : delay_in l key ≡ cto - eto =
    ap (λ (o : Option Stance). option_map_or (λ (s : Stance). cto_as l key s - eto_as s) o 0) h.0 in
    omega (
      arith,
      sum_by-cons delay (row_in m l key (Issued eto cto)) rows,
      sum_by-cons (λ (e : Text × Stance). delay_in l e.0) (key, Issued eto cto) flights,
      here,
      shown_delays m l es h.1,
    )
shown_delays m l ((key, Forced eto) ∷ es) h = shown_delays m l es h.1

-- so the delays that a list tells are those of the flights that its regulation governs
pub list_delays : (m : State) (l : Listing) → AreInOrder l.flights → sum_by delay (filter is_governed (list_rows m l)) ≡ delays_in l
list_delays m l sorted_by =
    let rows : List ListRow = map (λ (e : Text × Stance). row_in m l e.0 e.1) l.flights in
    delays-in_order is_row_before rows ∙ shown_delays m l l.flights (each_found l.flights sorted_by)

-- and those that all lists tell are those of the flights of each
pub told_delays : (m : State) → AreInOrder m.rows → total_delay (lists_told m) ≡ sum_by delays_in (map (λ (e : Text × Measure). listing m.rows e.0 e.1) m.regs)
told_delays m rows_in_order = of_regs m.regs
  where
    of_regs : (es : List (Text × Measure))
        → total_delay (map (λ (e : Text × Measure). list_reply m (regulation e.0 e.1) (listing m.rows e.0 e.1)) es)
        ≡ sum_by delays_in (map (λ (e : Text × Measure). listing m.rows e.0 e.1) es)
    of_regs [] = refl
    of_regs (e ∷ es) =
        let l : Listing = listing m.rows e.0 e.1 in
        let told : List ListReply = map (λ (e : Text × Measure). list_reply m (regulation e.0 e.1) (listing m.rows e.0 e.1)) es in
        let rest : List Listing = map (λ (e : Text × Measure). listing m.rows e.0 e.1) es in
        let parted : sum_by delay (filter is_governed (list_rows m l ++ rows_of told)) ≡ sum_by delay (filter is_governed (list_rows m l)) + total_delay told =
        ap (sum_by delay) (filter-append is_governed (list_rows m l) (rows_of told))
        ∙ sum_by-append delay (filter is_governed (list_rows m l)) (filter is_governed (rows_of told)) in
        let first : sum_by delay (filter is_governed (list_rows m l)) ≡ delays_in l =
        list_delays m l (sorted-kept (stance_in e.0 e.1) m.rows rows_in_order) in
        omega (arith, parted, first, of_regs es, sum_by-cons delays_in l rest)
