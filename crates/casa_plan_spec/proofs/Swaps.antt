-- two issued flights exchange their slots
use Rattle.std.proofs.Common.{◌≡◌, ℕ, ◌+◌, [], ◌∷◌, Bool, true, false, refl, sym, ap, subst, ◌∙◌, ◌||◌, Option, None, Some, is_some, unwrap_or}
use Rattle.std.specs.Option.{option_map, option_map_or, option_and_then}
use Rattle.std.specs.List.Sorted.{IsStrictlySortedBy}
use Rattle.std.proofs.Math.Bool.{or_self}
use Rattle.std.proofs.lemmas.Bool.{or_left, or_right}
use Rattle.casa_flight.specs.declared.call.Call.{Call}
use Rattle.casa_flight.specs.declared.call.Call.TheVariants.{Swap}
use Rattle.casa_flight.specs.declared.call.Refusal.TheVariants.{NoFlight, NotIssued, OtherRegulation, TooEarly}
use Rattle.casa_flight.specs.declared.reply.Answer.TheVariants.{Done}
use Rattle.casa_flight.specs.declared.reply.Reply.TheVariants.{Answered}
use Rattle.casa_flight.specs.declared.row.Row.{Row}
use Rattle.casa_flight.specs.declared.state.State.{State}
use Rattle.casa_filing.specs.Text.{Text, same_text, at_name, put}
use Rattle.casa_filing.specs.FlightPlan.{etot}
use Rattle.casa_flight.specs.State.{row_of, with_row, is_governed_by}
use Rattle.casa_flight.specs.Listing.{Listing, governing_list, delay_in}
use Rattle.casa_flight.specs.Steps.{leads, step, with_issued_time, Exchange, with_exchange, is_shared, are_too_early, swap as step_swap, swap_issued as step_swap_issued, swap_if as step_swap_if}
use Rattle.casa_flight.specs.Replies.{is_issued, message_of, messages}
use Rattle.casa_flight.specs.Good.{AreInOrder, IsGood}
use Rattle.casa_filing.proofs.Entries.{named, all-put, at-put_same, sorted-put, filter_map-each}
use Rattle.casa_laws.proofs.ChangeMessages.{stays}
use Rattle.casa_laws.proofs.Outcomes.{CanExchange}
use Rattle.casa_laws.proofs.Swap.{SharedBy, shared_by}
use Rattle.casa_footprint.specs.Footprint.{governs}
use Rattle.casa_footprint.proofs.Names.{text_itself}
use Rattle.casa_footprint.proofs.OneFlight.{other_row}
use Rattle.casa_plan_spec.specs.Sight.{Sight, Written, nothing_written, IsSightOf, IsAnswerIn, IsPlanned, clock_in, list_with, list_in, row_in, with_flight}
use Rattle.casa_plan_spec.specs.Write.{write_flight}
use Rattle.casa_plan_spec.specs.Issue.{governed_stance, with_issued_row}
use Rattle.casa_plan_spec.specs.Messages.{ctot_by, ctot_shown, message_shown, messages_shown, answer_done}
use Rattle.casa_plan_spec.specs.Swapping.{exchange_written, swap_if, swap_issued, swap_at, swap}
use Rattle.casa_plan_spec.proofs.Changes.{refusal, acceptance}
use Rattle.casa_plan_spec.proofs.Board.{Shows, says_shown, whole, whole-list, whole-shown}
use Rattle.casa_plan_spec.proofs.Messages.{messages_are}
use Rattle.casa_plan_spec.proofs.Naming.{named_put}
use Rattle.casa_plan_spec.proofs.FlightAnswers.{governing_seen}
use Rattle.casa_plan_spec.proofs.Held.{IsHeld, held_by, issue_shown, issue_named}

-- as a flight is written with another issue, no list is looked at but the one that governs it
issue_seen : (v u : Sight) (w : Written) (key : Text) (new : Row) → option_and_then (list_in v) new.governing ≡ option_and_then (list_in u) new.governing → with_issued_row v w key new ≡ with_issued_row u w key new
issue_seen v u w key new lists = by new.governing lists
  where
    written_by : Sight → Option Text → Written
    written_by s g = write_flight s w key (Some new) (option_map_or (λ (id : Text). (id, option_and_then (governed_stance key new) (list_in s id)) ∷ []) g [])

    by : (g : Option Text) → option_and_then (list_in v) g ≡ option_and_then (list_in u) g → written_by v g ≡ written_by u g
    by None e = refl
    by (Some id) e =
        ap (λ (o : Option Listing).
        let l : Option Listing = option_map (λ (l : Listing). with_flight l key (option_and_then (governed_stance key new) o)) (unwrap_or (at_name w.lists id) o) in
        let x : Written = record w { rows = put w.rows key (Some new); lists = put w.lists id l } in
        x) e

-- nor for its message
message_seen : (v u : Sight) (w : Written) (key : Text) (row : Row) (issued : Option ℕ) → row_in v key ≡ Some row → row_in u key ≡ Some row → option_and_then (list_in v) row.governing ≡ option_and_then (list_in u) row.governing
    → message_shown v w key (record row { issued = issued }) ≡ message_shown u w key (record row { issued = issued })
message_seen v u w key row issued here there lists =
    λ i. message_of key row.governing (is_issued ((here ∙ sym there) i)) (is_some issued) (before i) (ctot_as (now row.governing lists i))
  where
    ctot_as : Option Listing → ℕ
    ctot_as o = etot row.plan + option_map_or (λ (l : Listing). delay_in l key) o 0

    before : ctot_shown v key ≡ ctot_shown u key
    before = ap (λ (o : Option Row). option_map_or (ctot_by (λ id. list_in v id) key) o 0) here ∙ ap ctot_as lists ∙ sym (ap (λ (o : Option Row). option_map_or (ctot_by (λ id. list_in u id) key) o 0) there)

    now : (g : Option Text) → option_and_then (list_in v) g ≡ option_and_then (list_in u) g → option_and_then (list_with v w) g ≡ option_and_then (list_with u w) g
    now None e = refl
    now (Some id) e = ap (unwrap_or (at_name w.lists id)) e

-- the second flight once the first one is written: but for its issue as it was, also where the two are one
mate_between : (m : State) (x : Exchange) → CanExchange m x → (i : Option ℕ) × (row_of (with_row m x.key (with_issued_time x.row x.time)) x.other ≡ Some (record x.mate { issued = i }))
mate_between m x can = by (same_text x.key x.other) refl
  where
    one : State
    one = with_row m x.key (with_issued_time x.row x.time)

    by : (b : Bool) → same_text x.key x.other ≡ b → (i : Option ℕ) × (row_of one x.other ≡ Some (record x.mate { issued = i }))
    by true h =
        let name : x.key ≡ x.other = named x.key x.other h in
        let both : Some x.row ≡ Some x.mate = sym can.here ∙ ap (row_of m) name ∙ can.there in
        let same : x.row ≡ x.mate = cc in
        (Some x.time, ap (row_of one) (sym name) ∙ at-put_same x.key (with_issued_time x.row x.time) m.rows ∙ ap (λ (r : Row). Some (with_issued_time r x.time)) same)
    by false h = (x.mate.issued, other_row m x.key (with_issued_time x.row x.time) x.other h ∙ can.there)

exchanges : (v : Sight) (m : State) (x : Exchange) → IsGood m → IsSightOf m (Swap x.key x.other) v → CanExchange m x → step m (Swap x.key x.other) ≡ leads (with_exchange m x)
    → IsAnswerIn m (Swap x.key x.other) (answer_done v (exchange_written v x))
unfolding IsStrictlySortedBy
exchanges v m x good is can stepped =
    subst (λ (y : Written). IsAnswerIn m call (answer_done v y)) (sym same)
    (acceptance m call n (Answered Done (messages_shown v w)) w stepped (sym (ap (Answered Done) told)) (says_shown m call u w n shows refl refl rows lists))
  where
    call : Call
    call = Swap x.key x.other

    new : Row
    new = with_issued_time x.row x.time

    new_mate : Row
    new_mate = with_issued_time x.mate x.cto

    one : State
    one = with_row m x.key new

    n : State
    n = with_exchange m x

    u : Sight
    u = whole v m

    whole_list : (row : Row) → governing_list m row ≡ option_and_then (list_in u) row.governing
    whole_list row = ap (λ (at : Text → Option Listing). option_and_then at row.governing) (λ i id. sym (whole-list v m id) i)

    first : Written
    first = with_issued_row u nothing_written x.key new

    w : Written
    w = exchange_written u x

    own_list : option_and_then (list_in v) x.row.governing ≡ governing_list m x.row
    own_list = governing_seen v m x.key x.row (λ id h. is.list id (or_left _ _ h)) can.here

    its_list : option_and_then (list_in v) x.mate.governing ≡ governing_list m x.mate
    its_list = governing_seen v m x.other x.mate (λ id h. is.list id (or_right _ _ h)) can.there

    own_seen : option_and_then (list_in v) x.row.governing ≡ option_and_then (list_in u) x.row.governing
    own_seen = own_list ∙ whole_list x.row

    its_seen : option_and_then (list_in v) x.mate.governing ≡ option_and_then (list_in u) x.mate.governing
    its_seen = its_list ∙ whole_list x.mate

    same : exchange_written v x ≡ w
    same =
        ap (λ (y : Written). with_issued_row v y x.other new_mate) (issue_seen v u nothing_written x.key new own_seen)
        ∙ issue_seen v u first x.other new_mate its_seen

    s : SharedBy m x
    s = shared_by m x good can

    sorted : AreInOrder one.rows
    sorted = sorted-put x.key new m.rows good.rows_in_order

    begun : Shows u nothing_written m
    begun = whole-shown v m

    held : IsHeld m x.key
    held = held_by m m.clock x.key s.id x.row good can.here s.governs

    held_mate : IsHeld m x.other
    held_mate = held_by m m.clock x.other s.id x.mate good can.there s.governs_mate

    shows : Shows u w n
    shows =
        let between = mate_between m x can in
        issue_shown u first m one x.other held_mate between.0 (Some x.cto) (whole-list v m held_mate.id) good.rows_in_order
        (issue_shown u nothing_written m m x.key held x.row.issued (Some x.time) (whole-list v m held.id) good.rows_in_order begun good.rows_in_order refl can.here)
        sorted refl between.1

    rows : (q : Text) → is_some (at_name w.rows q) ≡ (same_text x.key q || same_text x.other q)
    rows q = named_put q x.other (Some new_mate) first.rows ∙ ap (λ b. b || same_text x.other q) (named_put q x.key (Some new) [])

    lists : (q : Text) → is_some (at_name w.lists q) ≡ governs m q x.key
    lists q =
        issue_named u first x.other new_mate q ∙ ap (λ b. b || is_governed_by q x.mate) (issue_named u nothing_written x.key new q)
        ∙ ap (λ (g : Option Text). is_governed_by q x.row || option_map_or (same_text q) g false) (s.governs_mate ∙ sym s.governs) ∙ or_self (is_governed_by q x.row)
        ∙ sym (ap (λ (o : Option Row). option_map_or (is_governed_by q) o false) can.here)

    -- the messages of a change by the view are those by the whole state
    Same : Text × Option Row → Type 0
    Same e = option_and_then (message_shown v w e.0) e.1 ≡ option_and_then (message_shown u w e.0) e.1

    told : messages m n ≡ messages_shown v w
    told =
        messages_are m n u w good (sorted-put x.other new_mate one.rows sorted) (sorted-put x.other (Some new_mate) first.rows (sorted-put x.key (Some new) [] tt)) begun shows
        (λ key id row none found governs. stays m n id (λ a opened. opened))
        ∙ sym (filter_map-each (λ (e : Text × Option Row). option_and_then (message_shown v w e.0) e.1) (λ (e : Text × Option Row). option_and_then (message_shown u w e.0) e.1) w.rows
        (all-put Same x.other (Some new_mate) (message_seen v u w x.other x.mate (Some x.cto) (is.row x.other (or_right _ _ (text_itself x.other)) ∙ can.there) can.there its_seen) first.rows
        (all-put Same x.key (Some new) (message_seen v u w x.key x.row (Some x.time) (is.row x.key (or_left _ _ (text_itself x.key)) ∙ can.here) can.here own_seen) [] tt)))

-- two issued flights
issued : (v : Sight) (m : State) (x : Exchange) → IsGood m → IsSightOf m (Swap x.key x.other) v
    → row_of m x.key ≡ Some x.row → row_of m x.other ≡ Some x.mate → x.row.issued ≡ Some x.cto → x.mate.issued ≡ Some x.time
    → IsAnswerIn m (Swap x.key x.other) (swap_if v x (is_shared x.row x.mate) (are_too_early (clock_in v) (option_and_then (list_in v) x.row.governing) (option_and_then (list_in v) x.mate.governing) x))
issued v m x good is here there own its = by (is_shared x.row x.mate) refl (are_too_early (clock_in v) (option_and_then (list_in v) x.row.governing) (option_and_then (list_in v) x.mate.governing) x) seen
  where
    call : Call
    call = Swap x.key x.other

    early : Bool
    early = are_too_early m.clock (governing_list m x.row) (governing_list m x.mate) x

    clock : m.clock ≡ clock_in v
    clock = sym (ap (λ (o : Option ℕ). unwrap_or o 0) (is.clock refl))

    own_list : governing_list m x.row ≡ option_and_then (list_in v) x.row.governing
    own_list = sym (governing_seen v m x.key x.row (λ id h. is.list id (or_left _ _ h)) here)

    its_list : governing_list m x.mate ≡ option_and_then (list_in v) x.mate.governing
    its_list = sym (governing_seen v m x.other x.mate (λ id h. is.list id (or_right _ _ h)) there)

    seen : early ≡ are_too_early (clock_in v) (option_and_then (list_in v) x.row.governing) (option_and_then (list_in v) x.mate.governing) x
    seen = λ i. are_too_early (clock i) (own_list i) (its_list i) x

    stepped : step m call ≡ step_swap_if m x (is_shared x.row x.mate) early
    stepped = (λ i. step_swap m x.key x.other (here i) (there i)) ∙ (λ i. step_swap_issued m x.key x.row x.other x.mate (own i) (its i))

    by : (s : Bool) → is_shared x.row x.mate ≡ s → (t : Bool) → early ≡ t → IsAnswerIn m call (swap_if v x s t)
    by false s t e = refusal m call OtherRegulation (stepped ∙ ap (λ b. step_swap_if m x b early) s)
    by true s true e = refusal m call TooEarly (stepped ∙ (λ i. step_swap_if m x (s i) (e i)))
    by true s false e =
        exchanges v m x good is (record { here = here; there = there; issued = own; mate_issued = its; shared = s; late_enough = e })
        (stepped ∙ (λ i. step_swap_if m x (s i) (e i)))

pub swap_planned : (v : Sight) (key other : Text) → IsPlanned v (Swap key other) (swap v key other)
swap_planned v key other m good is = by (row_in v key) own (row_in v other) its
  where
    call : Call
    call = Swap key other

    own : row_of m key ≡ row_in v key
    own = sym (is.row key (or_left _ _ (text_itself key)))

    its : row_of m other ≡ row_in v other
    its = sym (is.row other (or_right _ _ (text_itself other)))

    filed : (row mate : Row) → row_of m key ≡ Some row → row_of m other ≡ Some mate → (i : Option ℕ) → row.issued ≡ i → (j : Option ℕ) → mate.issued ≡ j → IsAnswerIn m call (swap_issued v key row other mate i j)
    filed row mate p q None e j f =
        refusal m call NotIssued ((λ k. step_swap m key other (p k) (q k)) ∙ ap (λ (i : Option ℕ). step_swap_issued m key row other mate i mate.issued) e)
    filed row mate p q (Some cto) e None f =
        refusal m call NotIssued ((λ k. step_swap m key other (p k) (q k)) ∙ (λ k. step_swap_issued m key row other mate (e k) (f k)))
    filed row mate p q (Some cto) e (Some time) f =
        issued v m (record { key = key; row = row; cto = cto; other = other; mate = mate; time = time }) good is p q e f

    by : (a : Option Row) → row_of m key ≡ a → (b : Option Row) → row_of m other ≡ b → IsAnswerIn m call (swap_at v key other a b)
    by None p b q = refusal m call NoFlight (ap (λ (o : Option Row). step_swap m key other o (row_of m other)) p)
    by (Some row) p None q = refusal m call NoFlight (λ k. step_swap m key other (p k) (q k))
    by (Some row) p (Some mate) q = filed row mate p q row.issued refl mate.issued refl
