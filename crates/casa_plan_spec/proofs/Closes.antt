-- the answer to a regulation that closes
use Rattle.std.proofs.Common.{◌≡◌, ℕ, List, [], ◌∷◌, map, Bool, true, false, cond, refl, sym, ap, subst, ◌∙◌, ◌&&◌, ◌||◌, Option, None, Some, is_some, if◌then◌else◌, unwrap_or}
use Rattle.std.specs.Option.{option_map, option_map_or}
use Rattle.std.specs.BTreeMap.{is_at}
use Rattle.std.specs.List.{AllByRecursion, list_any}
use Rattle.std.specs.List.Sorted.{IsStrictlySortedBy}
use Rattle.casa_flight.specs.declared.call.Call.{Call}
use Rattle.casa_flight.specs.declared.call.Call.TheVariants.{CloseReg}
use Rattle.casa_flight.specs.declared.call.Refusal.TheVariants.{NoRegulation}
use Rattle.casa_flight.specs.declared.comp.Comp.{Comp}
use Rattle.casa_flight.specs.declared.reply.Answer.TheVariants.{Done}
use Rattle.casa_flight.specs.declared.reply.Reply.TheVariants.{Answered}
use Rattle.casa_filing.specs.declared.regulation.Measure.{Measure}
use Rattle.casa_filing.specs.declared.regulation.Regulation.{Regulation}
use Rattle.casa_flight.specs.declared.row.Row.{Row}
use Rattle.casa_flight.specs.declared.state.State.{State}
use Rattle.casa_filing.specs.Text.{Text, same_text, at_name, put, without}
use Rattle.casa_filing.specs.FlightPlan.{FlightPlan}
use Rattle.casa_filing.specs.Subject.{regulation, subject}
use Rattle.casa_flight.specs.State.{row_of, measure_of, catalogue, is_governed_by, ungoverned}
use Rattle.casa_flight.specs.Listing.{Listing, listing, list_of}
use Rattle.casa_flight.specs.Entry.{enter_all}
use Rattle.casa_flight.specs.Steps.{flights_over, ungoverned_if, state_without_regulation, close_regulation, leads, step, after}
use Rattle.casa_flight.specs.Good.{AreInOrder, IsGood, IsGoverned}
use Rattle.casa_filing.proofs.Entries.{text_cmp, apart, named, all-each, each_found, keys-map, sorted-remove, at-without_other}
use Rattle.casa_laws.proofs.Kept.{at-without_same}
use Rattle.casa_laws.proofs.EnterAll.{regs-enter_all, all-flights_over}
use Rattle.casa_laws.proofs.RegMessages.{freed_plan}
use Rattle.casa_laws.proofs.GoodRegs.{next-good}
use Rattle.casa_laws.proofs.ChangeMessages.{StaysOpen, governed_by}
use Rattle.casa_footprint.specs.Items.{moment, regulations}
use Rattle.casa_footprint.specs.Footprint.{is_subject, is_list_of, governs}
use Rattle.casa_plan_spec.specs.Sight.{Sight, Written, nothing_written, row_with, IsSightOf, IsAnswerIn, IsPlanned, clock_in, regulations_in, list_in, row_in}
use Rattle.casa_footprint.specs.Finding.{by_id}
use Rattle.casa_plan_spec.specs.Closing.{without_regulation, governed_flights, closing, closing_with, after_closing, close_if, close_reg}
use Rattle.casa_plan_spec.specs.Enter.{with_reentry, with_entries}
use Rattle.casa_plan_spec.specs.Messages.{messages_shown, answer_done}
use Rattle.casa_plan_spec.proofs.Changes.{refusal, acceptance, at-put_by}
use Rattle.casa_plan_spec.proofs.Board.{Shows, says_shown}
use Rattle.casa_plan_spec.proofs.Messages.{messages_are}
use Rattle.casa_plan_spec.proofs.Entries.{lists_among, AreThere, Entries, entries, entries_ordered, enters_among}
use Rattle.casa_plan_spec.proofs.Among.{among_over, any_flights}
use Rattle.casa_plan_spec.proofs.Freed.{list-closed, row-closed, governed_in_list}
use Rattle.casa_plan_spec.proofs.TakingIn.{values-by_id}
use Rattle.casa_plan_spec.proofs.NewRates.{measure_none, measure_some}

-- the catalogue without a regulation
catalogue-without : (id : Text) (regs : List (Text × Measure))
    → without_regulation id (map (λ (e : Text × Measure). regulation e.0 e.1) regs) ≡ map (λ (e : Text × Measure). regulation e.0 e.1) (without regs id)
catalogue-without id [] = refl
catalogue-without id (e ∷ es) =
    let f : Text × Measure → Regulation = λ e. regulation e.0 e.1 in
    let value : Text × Regulation → Regulation = λ e. e.1 in
    let rest : List (Text × Regulation) = by_id (map f es) in
    elim (is_at (text_cmp id) e.0) as (λ b. map value (cond b rest ((e.0, f e) ∷ without rest id)) ≡ map f (cond b es (e ∷ without es id))) [
      | true ↦ values-by_id (map f es)
      | false ↦ ap (λ (rs : List Regulation). f e ∷ rs) (catalogue-without id es)
    ]

-- a view whose rows are these
abbrev with_shown : Sight → List (Text × Row) → Sight
with_shown v rows = record v { rows = rows }

-- a flight enters as it is ungoverned
entries_as : (clock : ℕ) (rs : List Regulation) (v : Sight) (rows : List (Text × Row)) (w : Written) (cs : List Comp)
    → ((key : Text) → option_map ungoverned (row_in v key) ≡ option_map ungoverned (at_name rows key))
    → with_entries clock rs v w cs ≡ with_entries clock rs (with_shown v rows) w cs
entries_as clock rs v rows w [] same = refl
entries_as clock rs v rows w (c ∷ cs) same =
    ap (λ (x : Written). with_entries clock rs v x cs) step ∙ entries_as clock rs v rows (with_reentry clock rs (with_shown v rows) w c.key (row_with (with_shown v rows) w c.key)) cs same
  where
    rest : (o : Option (Option Row)) → option_map ungoverned (unwrap_or o (row_in v c.key)) ≡ option_map ungoverned (unwrap_or o (at_name rows c.key))
    rest None = same c.key
    rest (Some o) = refl

    by : (o p : Option Row) → option_map ungoverned o ≡ option_map ungoverned p → with_reentry clock rs v w c.key o ≡ with_reentry clock rs (with_shown v rows) w c.key p
    by None None h = refl
    by None (Some p) h = cc
    by (Some o) None h = cc
    by (Some o) (Some p) h = ap (λ (x : Option Row). with_reentry clock rs v w c.key x) h

    step : with_reentry clock rs v w c.key (row_with v w c.key) ≡ with_reentry clock rs (with_shown v rows) w c.key (row_with (with_shown v rows) w c.key)
    step = by (row_with v w c.key) (row_with (with_shown v rows) w c.key) (rest (at_name w.rows c.key))

closes : (m : State) (id : Text) (measure : Measure) (l : Listing) (v : Sight) → IsGood m → IsSightOf m (CloseReg id) v → measure_of m id ≡ Some measure → listing m.rows id measure ≡ l
    → IsAnswerIn m (CloseReg id) (answer_done v (after_closing v id l))
unfolding IsStrictlySortedBy
closes m id measure l v good is opened listed =
    let all : Entries m.clock rs u begin s cs =
    entries m.clock rs u begin s cs refl (sym new) begun rows_sorted regs_sorted there in
    let regs : n.regs ≡ without m.regs id = regs-enter_all s cs in
    let stepped : step m call ≡ leads n = ap (close_regulation m id) opened in
    let then_good : IsGood n = subst (λ t. IsGood (after m t)) stepped (next-good m call good) in
    let rows : (q : Text) → is_some (at_name w.rows q) ≡ governs m id q = λ q. all.rows q ∙ among q in
    let shows : Shows v w n = record { rows = λ q. as_shown q (at_name w.rows q) refl (rows q) ∙ all.shows.rows q; lists = all.shows.lists; stands = all.shows.stands } in
    let stays : (key other : Text) (row : Row) → at_name w.rows key ≡ None → row_of n key ≡ Some row → row.governing ≡ Some other → StaysOpen m n other =
    λ key other row none found by a there.
    let before_too : row_of m key ≡ Some row = sym (is.row key refl) ∙ sym (ap (λ o. unwrap_or o (row_in v key)) none) ∙ shows.rows key ∙ found in
    let off : is_governed_by id row ≡ false = ap (λ (o : Option Row). option_map_or (is_governed_by id) o false) (sym before_too) ∙ sym (rows key) ∙ ap is_some none in
    (a, ap (λ es. at_name es other) regs ∙ at-without_other other id m.regs (apart id other (ap (λ (g : Option Text). option_map_or (same_text id) g false) (sym by) ∙ off)) ∙ there, λ plan eto h. h) in
    let written : AreInOrder w.rows = entries_ordered m.clock rs u begin cs tt in
    subst (λ (x : Written). IsAnswerIn m call (answer_done v x)) (sym change_is)
    (acceptance m call n (Answered Done (messages_shown v w)) w stepped (sym (ap (Answered Done) (messages_are m n v w good then_good.rows_in_order written before shows stays)))
    (says_shown m call v w n shows (ap (option_map moment) all.clock_kept)
    (ap (option_map regulations) all.catalogue_kept ∙ ap (λ q. Some (regulations q)) (new ∙ sym (ap (map (λ (e : Text × Measure). regulation e.0 e.1)) regs)))
    rows
    (λ q. all.lists q ∙ lists_there q)))
  where
    r : Regulation
    r = regulation id measure

    call : Call
    call = CloseReg id

    s : State
    s = state_without_regulation m id

    rs : List Regulation
    rs = without_regulation id (catalogue m)

    cs : List Comp
    cs = flights_over (is_governed_by id) r m.rows

    gone : List (Text × Option Listing)
    gone = put [] id None

    begin : Written
    begin = closing id rs

    -- the view as it shows the freed flights
    u : Sight
    u = with_shown v s.rows

    w : Written
    w = with_entries m.clock rs u begin cs

    n : State
    n = enter_all s cs

    new : rs ≡ catalogue s
    new = catalogue-without id m.regs

    rows_sorted : AreInOrder s.rows
    rows_sorted = subst (IsStrictlySortedBy text_cmp) (sym (keys-map (λ (e : Text × Row). ungoverned_if (is_governed_by id e.1) e.1) m.rows)) good.rows_in_order

    regs_sorted : AreInOrder s.regs
    regs_sorted = sorted-remove (is_at (text_cmp id)) m.regs good.regs_in_order

    -- the change that is answered is this one
    clock_is : clock_in v ≡ m.clock
    clock_is = ap (λ w. unwrap_or w 0) (is.clock refl)

    regulations_are : regulations_in v ≡ catalogue m
    regulations_are = ap (λ w. unwrap_or w []) (is.catalogue refl)

    flights_are : governed_flights l ≡ cs
    flights_are = ap governed_flights (sym listed) ∙ sym (governed_in_list id measure m.rows)

    same_rest : (key : Text) → option_map ungoverned (row_in v key) ≡ option_map ungoverned (row_of s key)
    same_rest key = ap (option_map ungoverned) (is.row key refl) ∙ by (row_of m key) ∙ sym (ap (option_map ungoverned) (row-closed m id key))
      where
        one : (b : Bool) (row : Row) → Some (ungoverned row) ≡ Some (ungoverned (ungoverned_if b row))
        one true row = refl
        one false row = refl

        by : (o : Option Row) → option_map ungoverned o ≡ option_map ungoverned (option_map (λ (row : Row). ungoverned_if (is_governed_by id row) row) o)
        by None = refl
        by (Some row) = one (is_governed_by id row) row

    change_is : after_closing v id l ≡ w
    change_is =
        (λ i. closing_with v id (without_regulation id (regulations_are i)) (flights_are i))
        ∙ ap (λ (clock : ℕ). with_entries clock rs v begin cs) clock_is
        ∙ entries_as m.clock rs v s.rows begin cs same_rest

    before : Shows v nothing_written m
    before = record { rows = λ q. is.row q refl; lists = λ q. is.list q refl; stands = refl }

    -- as they are freed the change shows them, and the lists
    list_now : (q : Text) → unwrap_or (at_name gone q) (list_in v q) ≡ list_of s q
    list_now q =
        ap (λ o. unwrap_or o (list_in v q)) (at-put_by q id None []) ∙
        (elim (same_text id q) as (λ b. same_text id q ≡ b → unwrap_or (if b then Some None else None) (list_in v q) ≡ list_of s q) [
          | true ↦ λ h. sym (subst (λ t. list_of s t ≡ None) (named id q h) (ap (option_map (listing s.rows id)) (at-without_same id m.regs good.regs_in_order)))
          | false ↦ λ h. is.list q refl ∙ sym (list-closed m id q h)
        ] refl)

    begun : Shows u begin s
    begun = record { rows = λ q. refl; lists = list_now; stands = refl }

    freed_row : (key : Text) (row : Row) → row_of m key ≡ Some row → row_of s key ≡ Some (ungoverned_if (is_governed_by id row) row)
    freed_row key row f = row-closed m id key ∙ ap (option_map (λ (row : Row). ungoverned_if (is_governed_by id row) row)) f

    found : AllByRecursion (λ (e : Text × Row). row_of m e.0 ≡ Some e.1) m.rows
    found = each_found m.rows good.rows_in_order

    there : AreThere s cs
    there = all-flights_over (λ (key : Text). is_some (row_of s key) ≡ true) (is_governed_by id) r m.rows
        (all-each (λ (e : Text × Row). row_of m e.0 ≡ Some e.1) (λ (e : Text × Row). is_governed_by id e.1 ≡ true → is_some (subject e.1.plan r) ≡ true → is_some (row_of s e.0) ≡ true)
        (λ e f a b. ap is_some (freed_row e.0 e.1 f)) m.rows found)

    -- the flights that enter are those that the regulation governs
    subject_too : (key : Text) (row : Row) → row_of m key ≡ Some row → is_governed_by id row ≡ true → is_some (subject row.plan r) ≡ true
    subject_too key row f h = by row.governing refl h
      where
        by : (g : Option Text) → row.governing ≡ g → option_map_or (same_text id) g false ≡ true → is_some (subject row.plan r) ≡ true
        by None e t = cc
        by (Some other) e t =
            let g : IsGoverned m.clock m.regs row id = governed_by m key row id good f (e ∙ ap (λ (k : Text). Some k) (sym (named id other t))) in
            let both : Some measure ≡ Some g.measure = sym opened ∙ g.is_open in
            let same : measure ≡ g.measure = cc in
            ap (λ (x : Measure). is_some (subject row.plan (regulation id x))) same ∙ ap is_some g.is_subject

    among : (q : Text) → enters_among q cs ≡ governs m id q
    among q = among_over (is_governed_by id) r q m.rows good.rows_in_order ∙ by (row_of m q) refl
      where
        both : (row : Row) → row_of m q ≡ Some row → (b : Bool) → is_governed_by id row ≡ b → (b && is_some (subject row.plan r)) ≡ b
        both row f true h = subject_too q row f h
        both row f false h = refl

        by : (o : Option Row) → row_of m q ≡ o → option_map_or (λ (row : Row). is_governed_by id row && is_some (subject row.plan r)) o false ≡ option_map_or (is_governed_by id) o false
        by None f = refl
        by (Some row) f = both row f (is_governed_by id row) refl

    -- what is not written is shown as it is
    as_shown : (q : Text) (o : Option (Option Row)) → at_name w.rows q ≡ o → is_some (at_name w.rows q) ≡ governs m id q → unwrap_or (at_name w.rows q) (row_in v q) ≡ unwrap_or (at_name w.rows q) (row_of s q)
    as_shown q (Some x) e h = ap (λ y. unwrap_or y (row_in v q)) e ∙ sym (ap (λ y. unwrap_or y (row_of s q)) e)
    as_shown q None e h =
        ap (λ y. unwrap_or y (row_in v q)) e ∙ is.row q refl ∙ by (row_of m q) (sym h ∙ ap is_some e) ∙ sym (row-closed m id q) ∙ sym (ap (λ y. unwrap_or y (row_of s q)) e)
      where
        by : (o : Option Row) → option_map_or (is_governed_by id) o false ≡ false → o ≡ option_map (λ (row : Row). ungoverned_if (is_governed_by id row) row) o
        by None h = refl
        by (Some row) h = sym (ap (λ b. Some (ungoverned_if b row)) h)

    -- the lists that are written are those of the flights that it governed
    lists_there : (q : Text) → (is_some (at_name begin.lists q) || lists_among s q cs) ≡ (same_text id q || list_any (λ (e : Text × Row). is_governed_by id e.1 && is_subject m e.1.plan q) m.rows)
    lists_there q =
        ap (λ (o : Option (Option Listing)). is_some o || lists_among s q cs) (at-put_by q id None []) ∙
        (elim (same_text id q) as (λ b. same_text id q ≡ b → (is_some {T = Option Listing} (if b then Some None else None) || lists_among s q cs) ≡ (b || list_any (λ (e : Text × Row). is_governed_by id e.1 && is_subject m e.1.plan q) m.rows)) [
          | true ↦ λ h. refl
          | false ↦ λ h. any_flights (λ (key : Text). is_list_of s key q) (λ (row : Row). is_subject m row.plan q) (is_governed_by id) r m.rows
              (all-each (λ (e : Text × Row). row_of m e.0 ≡ Some e.1) (λ (e : Text × Row). is_governed_by id e.1 ≡ true → (is_some (subject e.1.plan r) ≡ true) × (is_list_of s e.0 q ≡ is_subject m e.1.plan q))
              (λ e f g. (
                subject_too e.0 e.1 f g,
                ap (λ (o : Option Row). option_map_or (λ (row : Row). is_subject s row.plan q) o false) (freed_row e.0 e.1 f)
                    ∙ ap (λ (p : FlightPlan). is_subject s p q) (freed_plan (is_governed_by id e.1) e.1)
                    ∙ ap (λ (o : Option Measure). option_map_or (λ (x : Measure). is_some (subject e.1.plan (regulation q x))) o false) (at-without_other q id m.regs (apart id q h)),
              )) m.rows found)
        ] refl)

pub close_planned : (v : Sight) (id : Text) → IsPlanned v (CloseReg id) (close_reg v id)
close_planned v id m good is = by (list_in v id) refl
  where
    by : (l : Option Listing) → list_in v id ≡ l → IsAnswerIn m (CloseReg id) (close_if v id l)
    by None e = refusal m (CloseReg id) NoRegulation (ap (close_regulation m id) (measure_none m id (sym (is.list id refl) ∙ e)))
    by (Some l) e =
        let o = measure_some m id l (sym (is.list id refl) ∙ e) in
        closes m id o.0 l v good is o.1 o.2
