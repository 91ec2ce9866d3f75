-- the messages of a change from one state to another: what each tells, in which order they come, and where none comes
use Rattle.std.proofs.Common.{◌≡◌, ℕ, ◌+◌, ◌-◌, List, [], ◌∷◌, map, Bool, true, false, cond, refl, sym, ap, subst, ◌∙◌, Option, None, Some, MatchOption, is_some, unwrap_or, ◌==◌}
use Rattle.std.specs.Ordering.{is_eq}
use Rattle.std.specs.Option.{option_and_then, option_map_or}
use Rattle.std.specs.List.{All, AllByRecursion, Contains, cons_option, filter_map}
use Rattle.std.specs.List.Sorted.{IsStrictlySortedBy}
use Rattle.std.specs.Cmp.{nat_eq_equiv}
use Rattle.std.proofs.lemmas.Bool.{both_ways, eqb-true, eq-eqb}
use Rattle.std.proofs.lemmas.List.Elements.{All-from_recursion, All-nil}
use Rattle.casa_grid.specs.Profile.{end_of}
use Rattle.casa_grid.specs.Slots.{slots}
use Rattle.casa_grid.specs.TimeOver.{cto}
use Rattle.casa_filing.specs.declared.regulation.Regulation.{Regulation}
use Rattle.casa_filing.specs.declared.regulation.Measure.{Measure}
use Rattle.casa_flight.specs.declared.row.Row.{Row}
use Rattle.casa_flight.specs.declared.state.State.{State}
use Rattle.casa_flight.specs.declared.reply.Message.{Message}
use Rattle.casa_flight.specs.declared.reply.Message.TheVariants.{Sam, Srm, Slc}
use Rattle.casa_filing.specs.Text.{Text, same_text}
use Rattle.casa_filing.specs.FlightPlan.{FlightPlan, etot}
use Rattle.casa_filing.specs.Subject.{regulation, subject}
use Rattle.casa_flight.specs.State.{row_of, measure_of, with_row}
use Rattle.casa_flight.specs.Listing.{listing, place_of, ctot_of, delay_of}
use Rattle.casa_flight.specs.Replies.{message_of, message, messages, is_issued, ctot_before}
use Rattle.casa_flight.specs.Good.{AreInOrder, IsGood, IsFree, IsGoverned}
use Rattle.casa_flight.specs.Messages.{flight_of, TellsChange}
use Rattle.casa_filing.proofs.Entries.{text_cmp, other_way, named, all-each, all-filter_map, each_found, sorted-put, at-put_same, at-put_other}
use Rattle.casa_laws.proofs.Kept.{filter_map-one, contains-given}
use Rattle.casa_laws.proofs.InOrder.{names_rise, names_sorted}
use Rattle.casa_laws.proofs.Times.{delay_governed}
use Rattle.casa_laws.proofs.Good.{good_row}

-- a message is one of three, by whether the flight was issued before and is now
pub message_cases : (Q : Message → Type 0) (key : Text) (g : Option Text) (was now : Bool) (old new : ℕ)
    → ((reg : Text) → g ≡ Some reg → was ≡ false → now ≡ true → Q (Sam key new reg))
    → ((reg : Text) → g ≡ Some reg → was ≡ true → now ≡ true → (new ≡ old → ⊥) → Q (Srm key new reg))
    → (was ≡ true → now ≡ false → Q (Slc key))
    → (x : Message) → message_of key g was now old new ≡ Some x → Q x
message_cases Q key g false false old new a b c x h = cc
message_cases Q key g true false old new a b c x h = let same : Slc key ≡ x = cc in subst Q same (c refl refl)
message_cases Q key None was true old new a b c x h = cc
message_cases Q key (Some reg) false true old new a b c x h = let same : Sam key new reg ≡ x = cc in subst Q same (a reg refl refl refl)
message_cases Q key (Some reg) true true old new a b c x h =
    elim (old == new) as (λ t. (old == new) ≡ t → cond t None (Some (Srm key new reg)) ≡ Some x → Q x) [
      | true ↦ λ t e. cc
      | false ↦ λ t e.
          let same : Srm key new reg ≡ x = cc in
          subst Q same (b reg refl refl refl (λ p. both_ways _ t (eq-eqb old new (sym p))))
    ] refl h

-- a message is for the flight whose row it is of
pub message_key : (m n : State) (key : Text) (row : Row) (x : Message) → message m n key row ≡ Some x → flight_of x ≡ key
message_key m n key row = message_cases (λ x. flight_of x ≡ key) key row.governing (is_issued (row_of m key)) (is_some row.issued) (ctot_before m key) (ctot_of n key row)
    (λ _ _ _ _. refl) (λ _ _ _ _ _. refl) (λ _ _. refl)

-- what the message of a flight that is there tells
pub message_tells : (m n : State) (key : Text) (row : Row) (x : Message) → row_of n key ≡ Some row → message m n key row ≡ Some x → TellsChange m n x
message_tells m n key row x found = message_cases (TellsChange m n) key row.governing (is_issued (row_of m key)) (is_some row.issued) (ctot_before m key) (ctot_of n key row)
    (λ reg governs was now. (was, record { row = row; is_filed = found; governs = governs; issued = now; leaves = refl }))
    (λ reg governs was now other. (was, other, record { row = row; is_filed = found; governs = governs; issued = now; leaves = refl }))
    (λ was now. (was, ap is_some found, ap is_issued found ∙ now)) x

-- and where a message tells how it is, it is that of a flight that is there
abbrev IsMessageOf : State → State → Message → Row → Type 0
IsMessageOf m n x row = (row_of n (flight_of x) ≡ Some row) × (message m n (flight_of x) row ≡ Some x)

freed_message : (m n : State) (key : Text) (w : Option Row) → row_of n key ≡ w → is_issued (row_of m key) ≡ true → is_some w ≡ true → is_issued w ≡ false → (row : Row) × IsMessageOf m n (Slc key) row
freed_message m n key None found was there now = cc
freed_message m n key (Some row) found was there now =
    (row, (found, λ i. message_of key row.governing (was i) (now i) (ctot_before m key) (ctot_of n key row)))

revised_message : (key reg : Text) (old new : ℕ) → (new ≡ old → ⊥) → message_of key (Some reg) true true old new ≡ Some (Srm key new reg)
revised_message key reg old new other =
    elim (old == new) as (λ t. (old == new) ≡ t → cond t None (Some (Srm key new reg)) ≡ Some (Srm key new reg)) [
      | true ↦ λ t. absurd (other (sym (eqb-true old new t)))
      | false ↦ λ t. refl
    ] refl

pub tells_message : (m n : State) (x : Message) → TellsChange m n x → (row : Row) × IsMessageOf m n x row
tells_message m n (Sam key ctot reg) t =
    let s = t.1 in
    (s.row, (s.is_filed, λ i. message_of key (s.governs i) (t.0 i) (s.issued i) (ctot_before m key) (s.leaves i)))
tells_message m n (Srm key ctot reg) t =
    let s = t.2 in
    let here : message_of key s.row.governing (is_issued (row_of m key)) (is_some s.row.issued) (ctot_before m key) (ctot_of n key s.row) ≡ message_of key (Some reg) true true (ctot_before m key) ctot =
    λ i. message_of key (s.governs i) (t.0 i) (s.issued i) (ctot_before m key) (s.leaves i) in
    (s.row, (s.is_filed, here ∙ revised_message key reg (ctot_before m key) ctot t.1))
tells_message m n (Slc key) t = freed_message m n key (row_of n key) refl t.0 t.1 t.2

-- what holds of the message of each flight holds of all messages
pub each_message : (P : Message → Type 0) (m n : State) → AreInOrder n.rows → ((key : Text) (row : Row) (x : Message) → row_of n key ≡ Some row → message m n key row ≡ Some x → P x) → All P (messages m n)
each_message P m n sorted f =
    All-from_recursion P (messages m n)
    (all-filter_map (λ (e : Text × Row). row_of n e.0 ≡ Some e.1) P (λ (e : Text × Row). message m n e.0 e.1) (λ e x found h. f e.0 e.1 x found h) n.rows (each_found n.rows sorted))

pub tells_comes : (m n : State) (x : Message) → TellsChange m n x → Contains (messages m n) x
tells_comes m n x t =
    let w = tells_message m n x t in
    contains-given (λ (e : Text × Row). message m n e.0 e.1) (flight_of x) w.0 x n.rows w.1.0 w.1.1

-- messages come in the order of the keys
pub messages_sorted : (m n : State) → AreInOrder n.rows → IsStrictlySortedBy text_cmp (map flight_of (messages m n))
messages_sorted m n sorted =
    names_sorted flight_of (messages m n) (names_rise flight_of (λ (e : Text × Row). message m n e.0 e.1) (λ e x h. message_key m n e.0 e.1 x h) n.rows sorted)

-- whom a regulation governs
pub governed_name : (id : Text) (g : Option Text) → option_map_or (same_text id) g false ≡ true → g ≡ Some id
governed_name id None h = cc
governed_name id (Some by) h = ap (λ (q : Text). Some q) (sym (named id by h))

-- a flight of a good state is governed as it should be
pub governed_by : (m : State) (key : Text) (row : Row) (id : Text) → IsGood m → row_of m key ≡ Some row → row.governing ≡ Some id → IsGoverned m.clock m.regs row id
governed_by m key row id good found governs =
    subst (λ (w : Option Text). MatchOption w (IsFree m.clock m.regs row) (IsGoverned m.clock m.regs row)) governs (good_row m key row good found).standing

-- and free as it should be
pub free_of : (m : State) (key : Text) (row : Row) → IsGood m → row_of m key ≡ Some row → row.governing ≡ None → IsFree m.clock m.regs row
free_of m key row good found free =
    subst (λ (w : Option Text). MatchOption w (IsFree m.clock m.regs row) (IsGoverned m.clock m.regs row)) free (good_row m key row good found).standing

-- an issued flight's delay is what its row says
pub issued_delay : (m : State) (key id : Text) (row : Row) (measure : Measure) (eto t : ℕ) → AreInOrder m.rows → row_of m key ≡ Some row → row.governing ≡ Some id → row.issued ≡ Some t → measure_of m id ≡ Some measure → subject row.plan (regulation id measure) ≡ Some eto → delay_of m key row ≡ t - eto
issued_delay m key id row measure eto t sorted found governs issued opened over =
    delay_governed m key id row measure eto sorted found governs opened over
    ∙ ap (λ (w : Option ℕ). unwrap_or w (cto (slots measure.profile) (end_of measure.profile) eto (place_of (listing m.rows id measure) key)) - eto) issued

-- what is subject to the one regulation is subject to the other too, at the same time
abbrev pub TakesTimes : Regulation → Regulation → Type 0
TakesTimes r q = (plan : FlightPlan) (eto : ℕ) → subject plan r ≡ Some eto → subject plan q ≡ Some eto

-- an open regulation stays open, and what is subject to it stays so, at the same time
abbrev pub StaysOpen : State → State → Text → Type 0
StaysOpen m n id = (a : Measure) → measure_of m id ≡ Some a → (b : Measure) × (measure_of n id ≡ Some b) × TakesTimes (regulation id a) (regulation id b)

pub same_times : (r q : Regulation) → r ≡ q → TakesTimes r q
same_times r q same plan eto h = ap (subject plan) (sym same) ∙ h

-- as it is where it stays as it was
pub stays : (m n : State) (id : Text) → ((a : Measure) → measure_of m id ≡ Some a → measure_of n id ≡ Some a) → StaysOpen m n id
stays m n id f a opened = (a, f a opened, λ plan eto h. h)

same_delay : (m n : State) (key id : Text) (row : Row) (t : ℕ) → IsGood m → AreInOrder n.rows → StaysOpen m n id → row_of m key ≡ Some row → row_of n key ≡ Some row → row.governing ≡ Some id → row.issued ≡ Some t → delay_of m key row ≡ delay_of n key row
same_delay m n key id row t good sorted lasts before after governs issued =
    let g : IsGoverned m.clock m.regs row id = governed_by m key row id good before governs in
    let z = lasts g.measure g.is_open in
    let over : subject row.plan (regulation id z.0) ≡ Some g.eto = z.2 row.plan g.eto g.is_subject in
    issued_delay m key id row g.measure g.eto t good.rows_in_order before governs issued g.is_open g.is_subject
    ∙ sym (issued_delay n key id row z.0 g.eto t sorted after governs issued z.1 over)

-- a flight whose row stays has no message, where what governs it stays open
pub message_none : (m n : State) (key : Text) (row : Row) → IsGood m → AreInOrder n.rows → ((id : Text) → row.governing ≡ Some id → StaysOpen m n id) → row_of m key ≡ Some row → row_of n key ≡ Some row → message m n key row ≡ None
message_none m n key row good sorted lasts before after =
    ap (λ (w : Option Row). message_of key row.governing (is_issued w) (is_some row.issued) (option_map_or (ctot_of m key) w 0) (ctot_of n key row)) before
    ∙ by row.governing refl row.issued refl
  where
    by : (g : Option Text) → row.governing ≡ g → (i : Option ℕ) → row.issued ≡ i → message_of key g (is_some i) (is_some i) (ctot_of m key row) (ctot_of n key row) ≡ None
    by g governs None issued = refl
    by None governs (Some t) issued = refl
    by (Some id) governs (Some t) issued =
        let moved : ℕ → Option Message = λ d. cond (etot row.plan + d == etot row.plan + delay_of n key row) None (Some (Srm key (etot row.plan + delay_of n key row) id)) in
        ap moved (same_delay m n key id row t good sorted (lasts id governs) before after governs issued)
        ∙ ap (λ b. cond b None (Some (Srm key (etot row.plan + delay_of n key row) id))) (nat_eq_equiv.refl (etot row.plan + delay_of n key row))

-- a call that writes one row has no message for any other flight
pub messages_one : (m : State) (key : Text) (row : Row) → IsGood m → messages m (with_row m key row) ≡ cons_option (message m (with_row m key row) key row) []
messages_one m key row good =
    let n : State = with_row m key row in
    let sorted : AreInOrder n.rows = sorted-put key row m.rows good.rows_in_order in
    let given : Text × Row → Option Message = λ e. message m n e.0 e.1 in
    let each : AllByRecursion (λ (e : Text × Row). is_eq (text_cmp key e.0) ≡ false → given e ≡ None) n.rows =
    all-each (λ (e : Text × Row). row_of n e.0 ≡ Some e.1) (λ (e : Text × Row). is_eq (text_cmp key e.0) ≡ false → given e ≡ None)
    (λ e found off. message_none m n e.0 e.1 good sorted (λ id governs. stays m n id (λ a opened. opened)) (sym (at-put_other e.0 key row m.rows (other_way key e.0 off)) ∙ found) found)
    n.rows (each_found n.rows sorted) in
    filter_map-one given key n.rows sorted each ∙ ap (λ (w : Option Row). cons_option (option_and_then (λ (r : Row). given (key, r)) w) []) (at-put_same key row m.rows)

-- what holds of the message for that flight holds of all
pub all_one : (P : Message → Type 0) (m : State) (key : Text) (row : Row) → IsGood m → ((x : Message) → message m (with_row m key row) key row ≡ Some x → P x) → All P (messages m (with_row m key row))
all_one P m key row good f =
    subst (All P) (sym (messages_one m key row good)) (by (message m (with_row m key row) key row) refl)
  where
    by : (w : Option Message) → message m (with_row m key row) key row ≡ w → All P (cons_option w [])
    by None e = All-nil P
    by (Some x) e = All-from_recursion P (x ∷ []) (f x e, tt)

filter_map-none : {X Y : Type 0} (f : X → Option Y) (xs : List X) → AllByRecursion (λ (x : X). f x ≡ None) xs → filter_map f xs ≡ []
filter_map-none f [] a = refl
filter_map-none {X} {Y} f (x ∷ xs) a = ap (λ (w : Option Y). cons_option w (filter_map f xs)) a.0 ∙ filter_map-none f xs a.1

-- where each row that is there afterwards was there before, there is no message
pub messages_unchanged : (m n : State) → IsGood m → AreInOrder n.rows → ((id : Text) → StaysOpen m n id) → ((key : Text) (row : Row) → row_of n key ≡ Some row → row_of m key ≡ Some row) → messages m n ≡ []
messages_unchanged m n good sorted lasts before =
    filter_map-none (λ (e : Text × Row). message m n e.0 e.1) n.rows
    (all-each (λ (e : Text × Row). row_of n e.0 ≡ Some e.1) (λ (e : Text × Row). message m n e.0 e.1 ≡ None)
    (λ e found. message_none m n e.0 e.1 good sorted (λ id _. lasts id) (before e.0 e.1 found) found) n.rows (each_found n.rows sorted))
