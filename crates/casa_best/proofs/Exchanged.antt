-- two flights that exchange their slots wait as long together as before
use Rattle.std.proofs.Common.{◌≡◌, ℕ, ◌+◌, ◌-◌, ◌≤◌, true, false, cond, refl, sym, ◌∙◌, ap, subst, arith, Option, Some, MatchOption}
use Rattle.std.specs.Option.{option_map, option_map_or, option_and_then}
use Rattle.std.specs.Ordering.{is_eq}
use Rattle.casa_grid.specs.Profile.{end_of}
use Rattle.casa_filing.specs.declared.regulation.Measure.{Measure}
use Rattle.casa_filing.specs.Text.{Text}
use Rattle.casa_filing.specs.Subject.{regulation, subject, is_due}
use Rattle.casa_filing.proofs.Entries.{text_cmp, itself}
use Rattle.casa_flight.specs.declared.call.Call.TheVariants.{Swap}
use Rattle.casa_flight.specs.declared.row.Row.{Row}
use Rattle.casa_flight.specs.declared.row.Stance.{Stance}
use Rattle.casa_flight.specs.declared.state.State.{State}
use Rattle.casa_flight.specs.State.{row_of}
use Rattle.casa_flight.specs.Listing.{Listing, listing, list_of, stance, cto_as, eto_as, delay_in, delay_of}
use Rattle.casa_flight.specs.Steps.{Step, Exchange, after, next, with_exchange, with_issued_time}
use Rattle.casa_flight.specs.Good.{IsGood, IsGoverned}
use Rattle.casa_laws.proofs.ChangeMessages.{governed_by}
use Rattle.casa_laws.proofs.Outcomes.{CanExchange, swap_cases}
use Rattle.casa_laws.proofs.Swap.{SharedBy, shared_by, governed_stands, exchange-good, row_exchanged}
use Rattle.casa_best.specs.Serving.{flight_delay}
use Rattle.casa_best.proofs.Left.{apart_names}

-- the delay of an issued flight: its issued time less its own
issued_delay : (m : State) (key id : Text) (row : Row) (time : ℕ) → IsGood m → row_of m key ≡ Some row → row.governing ≡ Some id → (g : IsGoverned m.clock m.regs row id) → row.issued ≡ Some time
    → delay_of m key row ≡ time - g.eto
issued_delay m key id row time good found governs g issued =
    let l : Listing = listing m.rows id g.measure in
    ap (λ (w : Option Text). option_map_or (λ (l : Listing). delay_in l key) (option_and_then (list_of m) w) 0) governs
    ∙ ap (λ (w : Option Listing). option_map_or (λ (l : Listing). delay_in l key) w 0) (ap (option_map (listing m.rows id)) g.is_open)
    ∙ ap (λ (w : Option Stance). option_map_or (λ (s : Stance). cto_as l key s - eto_as s) w 0)
    (governed_stands m key id row good found governs g ∙ ap (λ (w : Option ℕ). Some (stance true w g.eto)) issued)

-- an issued time is not before the flight's own
own_time : (m : State) (row : Row) (id : Text) (time : ℕ) → (g : IsGoverned m.clock m.regs row id) → row.issued ≡ Some time → g.eto ≤ time
own_time m row id time g issued =
    (subst (λ (w : Option ℕ). MatchOption w (is_due m.clock row.plan ≡ false) (λ cto. (is_due m.clock row.plan ≡ true) × (g.eto ≤ cto) × (cto ≤ end_of g.measure.profile))) issued g.issued).1

-- at another issued time it has the same time over
own_time_stays : (m : State) (row : Row) (id : Text) (time : ℕ) → (g : IsGoverned m.clock m.regs row id) → (h : IsGoverned m.clock m.regs (with_issued_time row time) id) → g.eto ≡ h.eto
own_time_stays m row id time g h =
    let measures : Some g.measure ≡ Some h.measure = sym g.is_open ∙ h.is_open in
    let same : g.measure ≡ h.measure = cc in
    let times : Some g.eto ≡ Some h.eto = sym g.is_subject ∙ ap (λ (y : Measure). subject row.plan (regulation id y)) same ∙ h.is_subject in
    cc

module _ (m : State) (x : Exchange) (good : IsGood m) (can : CanExchange m x) (apart : x.other ≡ x.key → ⊥) where
  abbrev now : State
  now = with_exchange m x

  good_now : IsGood now
  good_now = exchange-good m x good can

  row_now : row_of now x.key ≡ Some (with_issued_time x.row x.time)
  row_now =
      let other : is_eq (text_cmp x.key x.other) ≡ false = apart_names x.key x.other (λ e. apart (sym e)) in
      let same : is_eq (text_cmp x.key x.key) ≡ true = itself x.key in
      row_exchanged m x x.key
      ∙ (λ i. cond (other i) (Some (with_issued_time x.mate x.cto)) (cond (same i) (Some (with_issued_time x.row x.time)) (row_of m x.key)))

  mate_now : row_of now x.other ≡ Some (with_issued_time x.mate x.cto)
  mate_now =
      row_exchanged m x x.other
      ∙ ap (λ b. cond b (Some (with_issued_time x.mate x.cto)) (cond (is_eq (text_cmp x.other x.key)) (Some (with_issued_time x.row x.time)) (row_of m x.other))) (itself x.other)

  delay_here : (n : State) (key : Text) (row : Row) (d : ℕ) → row_of n key ≡ Some row → delay_of n key row ≡ d → flight_delay n key ≡ d
  delay_here n key row d there is = ap (λ (w : Option Row). option_map_or (delay_of n key) w 0) there ∙ is

  exchanged_delays : flight_delay now x.key + flight_delay now x.other ≡ flight_delay m x.key + flight_delay m x.other
  exchanged_delays =
      let s : SharedBy m x = shared_by m x good can in
      let one : IsGoverned m.clock m.regs (with_issued_time x.row x.time) s.id = governed_by now x.key (with_issued_time x.row x.time) s.id good_now row_now s.governs in
      let two : IsGoverned m.clock m.regs (with_issued_time x.mate x.cto) s.id = governed_by now x.other (with_issued_time x.mate x.cto) s.id good_now mate_now s.governs_mate in
      let was : flight_delay m x.key ≡ x.cto - s.first.eto = delay_here m x.key x.row _ can.here (issued_delay m x.key s.id x.row x.cto good can.here s.governs s.first can.issued) in
      let mate_was : flight_delay m x.other ≡ x.time - s.second.eto = delay_here m x.other x.mate _ can.there (issued_delay m x.other s.id x.mate x.time good can.there s.governs_mate s.second can.mate_issued) in
      let is : flight_delay now x.key ≡ x.time - one.eto = delay_here now x.key (with_issued_time x.row x.time) _ row_now (issued_delay now x.key s.id (with_issued_time x.row x.time) x.time good_now row_now s.governs one refl) in
      let mate_is : flight_delay now x.other ≡ x.cto - two.eto = delay_here now x.other (with_issued_time x.mate x.cto) _ mate_now (issued_delay now x.other s.id (with_issued_time x.mate x.cto) x.cto good_now mate_now s.governs_mate two refl) in
      let same : s.first.eto ≡ one.eto = own_time_stays m x.row s.id x.time s.first one in
      let mate_same : s.second.eto ≡ two.eto = own_time_stays m x.mate s.id x.cto s.second two in
      let low : s.first.eto ≤ x.cto = own_time m x.row s.id x.cto s.first can.issued in
      let mate_low : s.second.eto ≤ x.time = own_time m x.mate s.id x.time s.second can.mate_issued in
      let now_low : one.eto ≤ x.time = own_time now (with_issued_time x.row x.time) s.id x.time one refl in
      let mate_now_low : two.eto ≤ x.cto = own_time now (with_issued_time x.mate x.cto) s.id x.cto two refl in
      omega (arith, was, mate_was, is, mate_is, same, mate_same, low, mate_low, now_low, mate_now_low)

pub delays_exchanged : (m : State) (key other : Text) → IsGood m → (other ≡ key → ⊥)
    → flight_delay (next m (Swap key other)) key + flight_delay (next m (Swap key other)) other ≡ flight_delay m key + flight_delay m other
delays_exchanged m key other good apart =
    swap_cases m (λ (s : Step). flight_delay (after m s) key + flight_delay (after m s) other ≡ flight_delay m key + flight_delay m other) (λ r. refl) key other
    (λ row mate cto time can. exchanged_delays m (record { key = key; row = row; cto = cto; other = other; mate = mate; time = time }) good can apart)
