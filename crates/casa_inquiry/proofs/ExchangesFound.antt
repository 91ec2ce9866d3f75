-- the exchanges that are found in the governing list are those that the allocator would accept
use Rattle.std.proofs.Common.{◌≡◌, ◌∙◌, ℕ, ◌+◌, ◌-◌, List, [], ◌∷◌, Bool, true, false, cond, ◌||◌, Option, None, Some, refl, sym, ap}
use Rattle.std.specs.List.{cons_option, filter_map}
use Rattle.std.specs.Option.{option_and_then, option_map, option_map_or}
use Rattle.std.specs.Ordering.{is_eq}
use Rattle.casa_filing.specs.declared.regulation.Measure.{Measure}
use Rattle.casa_filing.specs.FlightPlan.{etot}
use Rattle.casa_filing.specs.Subject.{regulation, subject}
use Rattle.casa_filing.specs.Text.{Text, same_text}
use Rattle.casa_filing.proofs.Entries.{all-each, apart, each_found, filter_map-each, itself, other_way, sorted-put, text_cmp}
use Rattle.casa_flight.specs.declared.call.Call.TheVariants.{Swap}
use Rattle.casa_flight.specs.declared.row.Row.{Row}
use Rattle.casa_flight.specs.declared.row.Stance.{Stance}
use Rattle.casa_flight.specs.declared.row.Stance.TheVariants.{Issued}
use Rattle.casa_flight.specs.declared.state.State.{State}
use Rattle.casa_flight.specs.Good.{AreInOrder, IsGood, IsGoverned}
use Rattle.casa_flight.specs.Listing.{Listing, ctot_of, filter_map_values, governing_list, list_of, listing, stance, stance_in, stance_of}
use Rattle.casa_flight.specs.Replies.{ctot_before as ctot_in}
use Rattle.casa_flight.specs.State.{is_governed_by, row_of}
use Rattle.casa_flight.specs.Steps.{Exchange, are_too_early, is_shared, is_too_early, step, swap, swap_if, swap_issued, with_exchange, with_issued_time}
use Rattle.casa_laws.proofs.ChangeMessages.{free_of, governed_by, governed_name, issued_delay}
use Rattle.casa_laws.proofs.Swap.{eto_is, governed_stance, governed_stands, row_exchanged, same_measure}
use Rattle.casa_inquiry.specs.declared.exchanging.IssuedTimes.{IssuedTimes}
use Rattle.casa_inquiry.specs.declared.exchanging.PossibleExchange.{PossibleExchange}
use Rattle.casa_inquiry.specs.Exchanges.{exchange_after, exchange_at, exchange_in, exchange_with, exchanges, exchanges_in, is_early, issued_times}

-- what is the same whatever a test says
either_way : {X : Type 0} (b : Bool) (x : X) → cond b x x ≡ x
either_way true x = refl
either_way false x = refl

-- with a flight that is not filed there is no exchange, and none of a flight that is not issued
not_issued : (m : State) (key : Text) (row : Row) → row_of m key ≡ Some row → row.issued ≡ None → (other : Text) → exchange_with m key other ≡ None
not_issued m key row found none other =
    ap (λ (w : Option Row). cond (same_text key other) None (exchange_after key other (swap m key other w (row_of m other)))) found
    ∙ ap (λ (w : Option PossibleExchange). cond (same_text key other) None w) (refused_with (row_of m other))
    ∙ either_way (same_text key other) None
  where
    refused_with : (w : Option Row) → exchange_after key other (swap m key other (Some row) w) ≡ None
    refused_with None = refl
    refused_with (Some mate) = ap (λ (i : Option ℕ). exchange_after key other (swap_issued m key row other mate i mate.issued)) none

none_of : {X Y : Type 0} (f : X → Option Y) → ((x : X) → f x ≡ None) → (xs : List X) → filter_map f xs ≡ []
none_of f h [] = refl
none_of {X} {Y} f h (x ∷ xs) = λ i. cons_option (h x i) (none_of f h xs i)

pub none_not_issued : (m : State) (key : Text) (row : Row) → row_of m key ≡ Some row → row.issued ≡ None → exchanges m key ≡ []
none_not_issued m key row found none =
    none_of (λ (e : Text × Row). exchange_with m key e.0) (λ e. not_issued m key row found none e.0) m.rows

-- what is found of what is kept of entries
kept_twice : {X Y Z : Type 0} (f : X → Option Y) (h : Text × Y → Option Z) (es : List (Text × X))
    → filter_map h (filter_map_values f es) ≡ filter_map (λ (e : Text × X). option_and_then (λ (y : Y). h (e.0, y)) (f e.1)) es
kept_twice f h [] = refl
kept_twice {X} {Y} {Z} f h (e ∷ es) =
    let both : Text × X → Option Z = λ e. option_and_then (λ (y : Y). h (e.0, y)) (f e.1) in
    elim (f e.1) as (λ (w : Option Y). filter_map h (cons_option (option_map (λ (y : Y). (e.0, y)) w) (filter_map_values f es))
    ≡ cons_option (option_and_then (λ (y : Y). h (e.0, y)) w) (filter_map both es)) [
      | None ↦ kept_twice f h es
      | Some y ↦ ap (cons_option (h (e.0, y))) (kept_twice f h es)
    ]

-- a flight that is issued, and another one
module _ (m : State) (key id : Text) (row : Row) (cto : ℕ) (good : IsGood m) (found : row_of m key ≡ Some row) (governs : row.governing ≡ Some id)
    (issued : row.issued ≡ Some cto) (g : IsGoverned m.clock m.regs row id) where
  abbrev own_times : IssuedTimes
  own_times = record { eto = g.eto; cto = cto }

  module _ (other : Text) (mate : Row) (there : row_of m other ≡ Some mate) where
    -- by how the other one stands in the list
    abbrev found_as : Option Stance → Option PossibleExchange
    found_as w = option_and_then (λ (s : Stance). exchange_in m key row.plan own_times (other, s)) w

    abbrev stands : Option Stance
    stands = stance_in id g.measure mate

    not_itself : same_text key other ≡ true → (w : Option Stance) → found_as w ≡ None
    not_itself same None = refl
    not_itself same (Some s) =
        ap (λ b.
        cond b None
        (option_and_then (λ (its : IssuedTimes). option_and_then (λ (r : Row). exchange_at m.clock row.plan own_times other r.plan its) (row_of m other))
        (issued_times s))) same

    not_waiting : (b : Bool) (w : Option ℕ) → found_as (option_map (stance b None) w) ≡ None
    not_waiting b None = refl
    not_waiting true (Some eto) = either_way (same_text key other) None
    not_waiting false (Some eto) = either_way (same_text key other) None

    not_forced : (i w : Option ℕ) → found_as (option_map (stance false i) w) ≡ None
    not_forced i None = refl
    not_forced i (Some eto) = either_way (same_text key other) None

    module _ (time : ℕ) (its_issued : mate.issued ≡ Some time) (its_governs : mate.governing ≡ Some id) (h : IsGoverned m.clock m.regs mate id)
        (away : same_text key other ≡ false) where
      abbrev x : Exchange
      x = record { key = key; row = row; cto = cto; other = other; mate = mate; time = time }

      abbrev now : State
      now = with_exchange m x

      abbrev its : IssuedTimes
      its = record { eto = h.eto; cto = time }

      its_stance : stands ≡ Some (Issued h.eto time)
      its_stance =
          let over : subject mate.plan (regulation id g.measure) ≡ Some h.eto =
          ap (λ (y : Measure). subject mate.plan (regulation id y)) (same_measure m row mate id g h) ∙ h.is_subject in
          governed_stance id g.measure mate h.eto its_governs over ∙ ap (λ (w : Option ℕ). Some (stance true w h.eto)) its_issued

      is_found : found_as stands ≡ exchange_at m.clock row.plan own_times other mate.plan its
      is_found =
          ap found_as its_stance
          ∙ ap (λ b. cond b None (option_and_then (λ (r : Row). exchange_at m.clock row.plan own_times other r.plan its) (row_of m other))) away
          ∙ ap (λ (w : Option Row). option_and_then (λ (r : Row). exchange_at m.clock row.plan own_times other r.plan its) w) there

      -- the take-off times after the exchange
      sorted : AreInOrder now.rows
      sorted =
          sorted-put other (with_issued_time mate cto) _ (sorted-put key (with_issued_time row time) m.rows good.rows_in_order)

      row_now : row_of now key ≡ Some (with_issued_time row time)
      row_now =
          row_exchanged m x key
          ∙ (λ i. cond (other_name i) (Some (with_issued_time mate cto)) (cond (itself key i) (Some (with_issued_time row time)) (row_of m key)))
        where
          other_name : is_eq (text_cmp key other) ≡ false
          other_name = other_way other key (apart key other away)

      mate_now : row_of now other ≡ Some (with_issued_time mate cto)
      mate_now =
          row_exchanged m x other
          ∙ ap (λ b. cond b (Some (with_issued_time mate cto)) (cond (is_eq (text_cmp other key)) (Some (with_issued_time row time)) (row_of m other))) (itself other)

      ctot_now : ctot_in now key ≡ etot row.plan + (time - g.eto)
      ctot_now =
          ap (λ (w : Option Row). option_map_or (ctot_of now key) w 0) row_now
          ∙ ap (λ d. etot row.plan + d) (issued_delay now key id (with_issued_time row time) g.measure g.eto time sorted row_now governs refl g.is_open g.is_subject)

      its_ctot_now : ctot_in now other ≡ etot mate.plan + (cto - h.eto)
      its_ctot_now =
          ap (λ (w : Option Row). option_map_or (ctot_of now other) w 0) mate_now
          ∙ ap (λ d. etot mate.plan + d) (issued_delay now other id (with_issued_time mate cto) h.measure h.eto cto sorted mate_now its_governs refl h.is_open h.is_subject)

      -- by the rule
      own_rule : is_too_early m.clock (governing_list m row) key row time ≡ is_early m.clock row.plan g.eto time
      own_rule = ap (λ eto. is_early m.clock row.plan eto time) (eto_is m key id row good found governs g)

      its_rule : is_too_early m.clock (governing_list m mate) other mate cto ≡ is_early m.clock mate.plan h.eto cto
      its_rule = ap (λ eto. is_early m.clock mate.plan eto cto) (eto_is m other id mate good there its_governs h)

      tested : (a : Bool) → is_early m.clock row.plan g.eto time ≡ a → (b : Bool) → is_early m.clock mate.plan h.eto cto ≡ b
          → exchange_after key other (swap_if m x true (a || b))
          ≡ option_and_then (λ (c : ℕ).
          option_map (λ (d : ℕ). record { other = other; ctot = c; other_ctot = d }) (cond b None (Some (etot mate.plan + (cto - h.eto)))))
          (cond a None (Some (etot row.plan + (time - g.eto))))
      tested true e b f = refl
      tested false e true f = refl
      tested false e false f = λ i. Some (record { other = other; ctot = ctot_now i; other_ctot = its_ctot_now i })

      by_rule : exchange_after key other (swap_if m x true (are_too_early m.clock (governing_list m row) (governing_list m mate) x))
          ≡ exchange_at m.clock row.plan own_times other mate.plan its
      by_rule =
          (λ i. exchange_after key other (swap_if m x true (own_rule i || its_rule i)))
          ∙ tested (is_early m.clock row.plan g.eto time) refl (is_early m.clock mate.plan h.eto cto) refl

    stepped : step m (Swap key other) ≡ swap_issued m key row other mate (Some cto) mate.issued
    stepped = (λ i. swap m key other (found i) (there i)) ∙ ap (λ (w : Option ℕ). swap_issued m key row other mate w mate.issued) issued

    shares : is_shared row mate ≡ is_governed_by id mate
    shares = ap (λ (w : Option Text). option_map_or (λ (q : Text). is_governed_by q mate) w false) governs

    by_regulation : (time : ℕ) → mate.issued ≡ Some time → same_text key other ≡ false → (b : Bool) → is_governed_by id mate ≡ b
        → let x : Exchange = record { key = key; row = row; cto = cto; other = other; mate = mate; time = time } in
        exchange_after key other (swap_if m x b (are_too_early m.clock (governing_list m row) (governing_list m mate) x)) ≡ found_as stands
    by_regulation time its_issued away false not =
        sym (ap (λ b. found_as (option_map (stance b mate.issued) (subject mate.plan (regulation id g.measure)))) not ∙ not_forced mate.issued (subject mate.plan (regulation id g.measure)))
    by_regulation time its_issued away true is =
        let its_governs : mate.governing ≡ Some id = governed_name id mate.governing is in
        let h : IsGoverned m.clock m.regs mate id = governed_by m other mate id good there its_governs in
        by_rule time its_issued its_governs h away ∙ sym (is_found time its_issued its_governs h away)

    by_issue : same_text key other ≡ false → (w : Option ℕ) → mate.issued ≡ w → exchange_after key other (swap_issued m key row other mate (Some cto) w) ≡ found_as stands
    by_issue away None none =
        sym (ap (λ (w : Option ℕ). found_as (option_map (stance (is_governed_by id mate) w) (subject mate.plan (regulation id g.measure)))) none
        ∙ not_waiting (is_governed_by id mate) (subject mate.plan (regulation id g.measure)))
    by_issue away (Some time) its_issued =
        let x : Exchange = record { key = key; row = row; cto = cto; other = other; mate = mate; time = time } in
        ap (λ b. exchange_after key other (swap_if m x b (are_too_early m.clock (governing_list m row) (governing_list m mate) x))) shares
        ∙ by_regulation time its_issued away (is_governed_by id mate) refl

    is_found_there : exchange_with m key other ≡ found_as stands
    is_found_there = by (same_text key other) refl
      where
        by : (b : Bool) → same_text key other ≡ b → cond b None (exchange_after key other (step m (Swap key other))) ≡ found_as stands
        by true same = sym (not_itself same stands)
        by false away = ap (exchange_after key other) stepped ∙ by_issue away mate.issued refl

  pub all_found : exchanges m key ≡ exchanges_in m key row.plan own_times (listing m.rows id g.measure)
  all_found =
      let with_row_there : Text × Row → Option PossibleExchange =
      λ e. option_and_then (λ (s : Stance). exchange_in m key row.plan own_times (e.0, s)) (stance_in id g.measure e.1) in
      filter_map-each (λ (e : Text × Row). exchange_with m key e.0) with_row_there m.rows
      (all-each (λ (e : Text × Row). row_of m e.0 ≡ Some e.1) (λ (e : Text × Row). exchange_with m key e.0 ≡ with_row_there e)
      (λ e there. is_found_there e.0 e.1 there) m.rows (each_found m.rows good.rows_in_order))
      ∙ sym (kept_twice (stance_in id g.measure) (exchange_in m key row.plan own_times) m.rows)

-- so it is by the governing list, and by the times over that the flight has there, if there are any
abbrev found_by : State → Text → Row → Listing → Option IssuedTimes → List PossibleExchange
found_by m key row l w = option_map_or (λ (own : IssuedTimes). exchanges_in m key row.plan own l) w []

abbrev found_in : State → Text → Row → Option Listing → List PossibleExchange
found_in m key row w = option_map_or (λ (l : Listing). found_by m key row l (option_and_then issued_times (stance_of l key))) w []

all_by_list : (m : State) (key : Text) (row : Row) → IsGood m → row_of m key ≡ Some row → found_in m key row (governing_list m row) ≡ exchanges m key
all_by_list m key row good found = by row.governing refl
  where
    by_issue : (id : Text) → row.governing ≡ Some id → (g : IsGoverned m.clock m.regs row id) → (w : Option ℕ) → row.issued ≡ w
        → let l : Listing = listing m.rows id g.measure in
        found_by m key row l (option_and_then issued_times (Some (stance true w g.eto))) ≡ exchanges m key
    by_issue id governs g None none = sym (none_not_issued m key row found none)
    by_issue id governs g (Some cto) issued = sym (all_found m key id row cto good found governs issued g)

    by : (w : Option Text) → row.governing ≡ w → found_in m key row (governing_list m row) ≡ exchanges m key
    by None free =
        ap (λ (w : Option Text). found_in m key row (option_and_then (list_of m) w)) free
        ∙ sym (none_not_issued m key row found (free_of m key row good found free).not_issued)
    by (Some id) governs =
        let g : IsGoverned m.clock m.regs row id = governed_by m key row id good found governs in
        let l : Listing = listing m.rows id g.measure in
        ap (λ (w : Option Text). found_in m key row (option_and_then (list_of m) w)) governs
        ∙ ap (λ (w : Option Measure). found_in m key row (option_map (listing m.rows id) w)) g.is_open
        ∙ ap (λ (w : Option Stance). found_by m key row l (option_and_then issued_times w))
        (governed_stands m key id row good found governs g)
        ∙ by_issue id governs g row.issued refl

pub found_at : (m : State) (key : Text) (row : Row) → IsGood m → row_of m key ≡ Some row → (l : Listing) (own : IssuedTimes) → governing_list m row ≡ Some l
    → option_and_then issued_times (stance_of l key) ≡ Some own → exchanges_in m key row.plan own l ≡ exchanges m key
found_at m key row good found l own list times =
    sym (ap (found_in m key row) list ∙ ap (found_by m key row l) times) ∙ all_by_list m key row good found

pub none_found : (m : State) (key : Text) (row : Row) → IsGood m → row_of m key ≡ Some row
    → option_and_then (λ (l : Listing). option_and_then issued_times (stance_of l key)) (governing_list m row) ≡ None → [] ≡ exchanges m key
none_found m key row good found none = by (governing_list m row) none ∙ all_by_list m key row good found
  where
    by : (w : Option Listing) → option_and_then (λ (l : Listing). option_and_then issued_times (stance_of l key)) w ≡ None → [] ≡ found_in m key row w
    by None e = refl
    by (Some l) e = sym (ap (found_by m key row l) e)
