-- Swap: what an exchange makes of the rows and lists, and that it keeps a state good
use Rattle.std.proofs.Common.{◌≡◌, ℕ, ◌≤◌, Bool, true, false, cond, refl, sym, ap, subst, ◌∙◌, ◌⊎◌, inl, inr, Option, None, Some, MatchOption, nat_lt}
use Rattle.std.specs.Option.{option_map, option_map_or, option_and_then}
use Rattle.std.specs.Ordering.{is_eq}
use Rattle.std.proofs.lemmas.Bool.{or_parts, ltb-false}
use Rattle.std.proofs.lemmas.Cmp.{nat_list_eq_equiv}
use Rattle.casa_grid.specs.Profile.{end_of}
use Rattle.casa_filing.specs.declared.regulation.Measure.{Measure}
use Rattle.casa_flight.specs.declared.row.Row.{Row}
use Rattle.casa_flight.specs.declared.row.Stance.{Stance}
use Rattle.casa_flight.specs.declared.row.Stance.TheVariants.{Issued, Forced}
use Rattle.casa_flight.specs.declared.state.State.{State}
use Rattle.casa_filing.specs.Text.{Text, same_text, put}
use Rattle.casa_filing.specs.Subject.{regulation, subject, is_due}
use Rattle.casa_flight.specs.State.{row_of, measure_of, with_row, is_governed_by}
use Rattle.casa_flight.specs.Listing.{Listing, listing, list_of, governing_list, stance, stance_in, stance_of, eto_as}
use Rattle.casa_flight.specs.Steps.{eto_in, is_too_early, with_issued_time, Exchange, with_exchange}
use Rattle.casa_flight.specs.Good.{AreInOrder, IsGood, IsGoodRow, IsFree, IsGoverned}
use Rattle.casa_filing.proofs.Entries.{text_cmp, all-put, sorted-put, same_name, at-put, at-put_other}
use Rattle.casa_laws.proofs.Kept.{sorted-kept}
use Rattle.casa_laws.proofs.Lists.{stance_is, list_puts, list-with_row, with_same}
use Rattle.casa_laws.proofs.Outcomes.{CanExchange}
use Rattle.casa_laws.proofs.Good.{good_row}
use Rattle.casa_laws.proofs.ChangeMessages.{governed_name, governed_by, free_of}

eto_own : (w : Option ℕ) (eto : ℕ) → eto_as (stance true w eto) ≡ eto
eto_own None eto = refl
eto_own (Some t) eto = refl

-- how a governed flight stands in its list
pub governed_stance : (id : Text) (measure : Measure) (row : Row) (eto : ℕ) → row.governing ≡ Some id → subject row.plan (regulation id measure) ≡ Some eto → stance_in id measure row ≡ Some (stance true row.issued eto)
governed_stance id measure row eto governs over =
    let itself : is_governed_by id row ≡ true = ap (λ (w : Option Text). option_map_or (same_text id) w false) governs ∙ nat_list_eq_equiv.refl id in
    λ i. option_map (stance (itself i) row.issued) (over i)

pub governed_stands : (m : State) (key id : Text) (row : Row) → IsGood m → row_of m key ≡ Some row → row.governing ≡ Some id → (g : IsGoverned m.clock m.regs row id) → stance_of (listing m.rows id g.measure) key ≡ Some (stance true row.issued g.eto)
governed_stands m key id row good found governs g =
    stance_is m key id g.measure (listing m.rows id g.measure) (Some row) good.rows_in_order g.is_open (ap (option_map (listing m.rows id)) g.is_open) found
    ∙ governed_stance id g.measure row g.eto governs g.is_subject

-- a governed flight's time over is that at its regulation
pub eto_is : (m : State) (key id : Text) (row : Row) → IsGood m → row_of m key ≡ Some row → row.governing ≡ Some id → (g : IsGoverned m.clock m.regs row id) → eto_in (governing_list m row) key ≡ g.eto
eto_is m key id row good found governs g =
    let l : Listing = listing m.rows id g.measure in
    let listed : list_of m id ≡ Some l = ap (option_map (listing m.rows id)) g.is_open in
    ap (λ (w : Option Text). option_map_or (λ (l : Listing). option_map_or eto_as (stance_of l key) 0) (option_and_then (list_of m) w) 0) governs
    ∙ ap (λ (w : Option Listing). option_map_or (λ (l : Listing). option_map_or eto_as (stance_of l key) 0) w 0) listed
    ∙ ap (λ (w : Option Stance). option_map_or eto_as w 0) (governed_stands m key id row good found governs g)
    ∙ eto_own row.issued g.eto

-- one regulation governs both
pub record SharedBy (m : State) (x : Exchange) : Type 0 where
  pub id : Text
  pub governs : x.row.governing ≡ Some id
  pub governs_mate : x.mate.governing ≡ Some id
  pub first : IsGoverned m.clock m.regs x.row id
  pub second : IsGoverned m.clock m.regs x.mate id

pub shared_by : (m : State) (x : Exchange) → IsGood m → CanExchange m x → SharedBy m x
shared_by m x good can = by x.row.governing refl
  where
    by : (w : Option Text) → x.row.governing ≡ w → SharedBy m x
    by None e = let none : None ≡ Some x.cto = sym (free_of m x.key x.row good can.here e).not_issued ∙ can.issued in absurd (let no : ⊥ = cc in no)
    by (Some id) e =
        let mate : is_governed_by id x.mate ≡ true = sym (ap (λ (w : Option Text). option_map_or (λ (q : Text). is_governed_by q x.mate) w false) e) ∙ can.shared in
        let governs : x.mate.governing ≡ Some id = governed_name id x.mate.governing mate in
        record { id = id; governs = e; governs_mate = governs; first = governed_by m x.key x.row id good can.here e; second = governed_by m x.other x.mate id good can.there governs }

-- an issued flight is due, at a time from its own to the end
issued_bounds : (clock : ℕ) (row : Row) (low high t : ℕ) → row.issued ≡ Some t → MatchOption row.issued (is_due clock row.plan ≡ false) (λ cto. (is_due clock row.plan ≡ true) × (low ≤ cto) × (cto ≤ high)) → (is_due clock row.plan ≡ true) × (low ≤ t) × (t ≤ high)
issued_bounds clock row low high t issued h = subst (λ (w : Option ℕ). MatchOption w (is_due clock row.plan ≡ false) (λ cto. (is_due clock row.plan ≡ true) × (low ≤ cto) × (cto ≤ high))) issued h

-- it is a good flight at another such time
reissued_good : (m : State) (key id : Text) (row : Row) (t : ℕ) → row.plan.key ≡ key → row.governing ≡ Some id → (g : IsGoverned m.clock m.regs row id) → is_due m.clock row.plan ≡ true → g.eto ≤ t → t ≤ end_of g.measure.profile → IsGoodRow m.clock m.regs key (with_issued_time row t)
reissued_good m key id row t keyed governs g due low high = record {
  keyed = keyed;
  standing = subst (λ (w : Option Text). MatchOption w (IsFree m.clock m.regs (with_issued_time row t)) (IsGoverned m.clock m.regs (with_issued_time row t))) (sym governs)
      (record { measure = g.measure; is_open = g.is_open; eto = g.eto; is_subject = g.is_subject; not_exempt = g.not_exempt; issued = (due, low, high) });
}

-- the measure of one regulation is one
pub same_measure : (m : State) (row mate : Row) (id : Text) (g : IsGoverned m.clock m.regs row id) (h : IsGoverned m.clock m.regs mate id) → g.measure ≡ h.measure
same_measure m row mate id g h = let both : Some g.measure ≡ Some h.measure = sym g.is_open ∙ h.is_open in cc

pub put_row-good : (m : State) (key : Text) (row : Row) → IsGood m → IsGoodRow m.clock m.regs key row → IsGood (with_row m key row)
put_row-good m key row good new = record {
  rows_in_order = sorted-put key row m.rows good.rows_in_order;
  regs_in_order = good.regs_in_order;
  rows = all-put (λ (e : Text × Row). IsGoodRow m.clock m.regs e.0 e.1) key row new m.rows good.rows;
}

-- one of the two flights at the other's time
half_good : (m : State) (key other id : Text) (row mate : Row) (cto time : ℕ) → IsGood m → row_of m key ≡ Some row → row.governing ≡ Some id → row.issued ≡ Some cto → mate.issued ≡ Some time
    → (g : IsGoverned m.clock m.regs row id) → (h : IsGoverned m.clock m.regs mate id) → is_too_early m.clock (governing_list m row) key row time ≡ false → IsGoodRow m.clock m.regs key (with_issued_time row time)
half_good m key other id row mate cto time good found governs issued mate_issued g h fits =
    let own = issued_bounds m.clock row g.eto (end_of g.measure.profile) cto issued g.issued in
    let its = issued_bounds m.clock mate h.eto (end_of h.measure.profile) time mate_issued h.issued in
    let eto : ℕ = eto_in (governing_list m row) key in
    let low : eto ≤ time = ltb-false time eto (or_parts (nat_lt time eto) _ fits).0 in
    reissued_good m key id row time (good_row m key row good found).keyed governs g own.0
    (subst (λ e. e ≤ time) (eto_is m key id row good found governs g) low)
    (subst (λ (y : Measure). time ≤ end_of y.profile) (sym (same_measure m row mate id g h)) its.2)

pub exchange-good : (m : State) (x : Exchange) → IsGood m → CanExchange m x → IsGood (with_exchange m x)
exchange-good m x good can =
    let s = shared_by m x good can in
    let fits =
    or_parts (is_too_early m.clock (governing_list m x.row) x.key x.row x.time) (is_too_early m.clock (governing_list m x.mate) x.other x.mate x.cto) can.late_enough in
    put_row-good (with_row m x.key (with_issued_time x.row x.time)) x.other (with_issued_time x.mate x.cto)
    (put_row-good m x.key (with_issued_time x.row x.time) good (half_good m x.key x.other s.id x.row x.mate x.cto x.time good can.here s.governs can.issued can.mate_issued s.first s.second fits.0))
    (half_good m x.other x.key s.id x.mate x.row x.time x.cto good can.there s.governs_mate can.mate_issued can.issued s.second s.first fits.1)

-- the row of any flight after an exchange
pub row_exchanged : (m : State) (x : Exchange) (q : Text) → row_of (with_exchange m x) q ≡ cond (is_eq (text_cmp q x.other)) (Some (with_issued_time x.mate x.cto)) (cond (is_eq (text_cmp q x.key)) (Some (with_issued_time x.row x.time)) (row_of m q))
row_exchanged m x q =
    at-put q x.other (with_issued_time x.mate x.cto) (with_row m x.key (with_issued_time x.row x.time)).rows
    ∙ ap (λ (w : Option Row). cond (is_eq (text_cmp q x.other)) (Some (with_issued_time x.mate x.cto)) w) (at-put q x.key (with_issued_time x.row x.time) m.rows)

-- it is one of the two, or as it was
abbrev pub RowAfter : State → Exchange → Text → Type 0
RowAfter m x q =
    ((q ≡ x.other) × (row_of (with_exchange m x) q ≡ Some (with_issued_time x.mate x.cto)))
    ⊎ (((q ≡ x.key) × (row_of (with_exchange m x) q ≡ Some (with_issued_time x.row x.time)))
    ⊎ ((is_eq (text_cmp q x.other) ≡ false) × (is_eq (text_cmp q x.key) ≡ false) × (row_of (with_exchange m x) q ≡ row_of m q)))

pub exchanged_row : (m : State) (x : Exchange) (q : Text) → RowAfter m x q
exchanged_row m x q = by (is_eq (text_cmp q x.other)) refl (is_eq (text_cmp q x.key)) refl
  where
    by : (a : Bool) → is_eq (text_cmp q x.other) ≡ a → (b : Bool) → is_eq (text_cmp q x.key) ≡ b → RowAfter m x q
    by true s b t = inl (same_name q x.other s, row_exchanged m x q ∙ ap (λ c. cond c (Some (with_issued_time x.mate x.cto)) (cond (is_eq (text_cmp q x.key)) (Some (with_issued_time x.row x.time)) (row_of m q))) s)
    by false s true t = inr (inl (same_name q x.key t, row_exchanged m x q ∙ (λ i. cond (s i) (Some (with_issued_time x.mate x.cto)) (cond (t i) (Some (with_issued_time x.row x.time)) (row_of m q)))))
    by false s false t = inr (inr (s, t, row_exchanged m x q ∙ (λ i. cond (s i) (Some (with_issued_time x.mate x.cto)) (cond (t i) (Some (with_issued_time x.row x.time)) (row_of m q)))))

-- the list of both flights after an exchange
pub exchanged_list : (m : State) (x : Exchange) (l : Listing) → IsGood m → (s : SharedBy m x) → list_of m s.id ≡ Some l
    → list_of (with_exchange m x) s.id ≡ Some (record l { flights = put (put l.flights x.key (Issued s.first.eto x.time)) x.other (Issued s.second.eto x.cto) })
exchanged_list m x l good s is =
    let one : State = with_row m x.key (with_issued_time x.row x.time) in
    let half : Listing = record l { flights = put l.flights x.key (Issued s.first.eto x.time) } in
    list_puts one x.other s.id (with_issued_time x.mate x.cto) s.second.measure half (Issued s.second.eto x.cto) (sorted-put x.key (with_issued_time x.row x.time) m.rows good.rows_in_order) s.second.is_open
    (list_puts m x.key s.id (with_issued_time x.row x.time) s.first.measure l (Issued s.first.eto x.time) good.rows_in_order s.first.is_open is
    (governed_stance s.id s.first.measure (with_issued_time x.row x.time) s.first.eto s.governs s.first.is_subject))
    (governed_stance s.id s.second.measure (with_issued_time x.mate x.cto) s.second.eto s.governs_mate s.second.is_subject)

-- a flight that another regulation governs is forced, whatever its issue
forced_stance : (id : Text) (measure : Measure) (row : Row) → is_governed_by id row ≡ false → stance_in id measure row ≡ option_map (λ (eto : ℕ). Forced eto) (subject row.plan (regulation id measure))
forced_stance id measure row h = ap (λ b. option_map (stance b row.issued) (subject row.plan (regulation id measure))) h

-- a list stays in which a written flight stands as it stood
list_stays : (m : State) (key id : Text) (old new : Row) → AreInOrder m.rows → row_of m key ≡ Some old → ((measure : Measure) → stance_in id measure new ≡ stance_in id measure old) → list_of (with_row m key new) id ≡ list_of m id
list_stays m key id old new sorted found same = by (measure_of m id) refl
  where
    by : (w : Option Measure) → measure_of m id ≡ w → list_of (with_row m key new) id ≡ list_of m id
    by None e = ap (λ (w : Option Measure). option_map (listing (with_row m key new).rows id) w) e ∙ sym (ap (option_map (listing m.rows id)) e)
    by (Some measure) e =
        let l : Listing = listing m.rows id measure in
        let is : list_of m id ≡ Some l = ap (option_map (listing m.rows id)) e in
        let stands : stance_of l key ≡ stance_in id measure new = stance_is m key id measure l (Some old) sorted e is found ∙ sym (same measure) in
        list-with_row m key id new measure l sorted e is
        ∙ ap (λ (k : Listing). Some k) (with_same l key (stance_in id measure new) (sorted-kept (stance_in id measure) m.rows sorted) stands)
        ∙ sym is

-- a flight with another issue, in the lists that do not govern it
unmoved : (id : Text) (row : Row) (t : ℕ) → is_governed_by id row ≡ false → (measure : Measure) → stance_in id measure (with_issued_time row t) ≡ stance_in id measure row
unmoved id row t h measure = forced_stance id measure (with_issued_time row t) h ∙ sym (forced_stance id measure row h)

not_governed : (id by : Text) (row : Row) → row.governing ≡ Some by → same_text id by ≡ false → is_governed_by id row ≡ false
not_governed id by row governs other = ap (λ (w : Option Text). option_map_or (same_text id) w false) governs ∙ other

-- the other lists stay at an exchange
pub other_list : (m : State) (x : Exchange) (id : Text) → IsGood m → CanExchange m x → is_governed_by id x.row ≡ false → list_of (with_exchange m x) id ≡ list_of m id
other_list m x id good can off =
    list_second (is_eq (text_cmp x.other x.key)) refl
    ∙ list_stays m x.key id x.row (with_issued_time x.row x.time) good.rows_in_order can.here (unmoved id x.row x.time off)
  where
    s : SharedBy m x
    s = shared_by m x good can

    one : State
    one = with_row m x.key (with_issued_time x.row x.time)

    sorted : AreInOrder one.rows
    sorted = sorted-put x.key (with_issued_time x.row x.time) m.rows good.rows_in_order

    apart_id : same_text id s.id ≡ false
    apart_id = sym (ap (λ (w : Option Text). option_map_or (same_text id) w false) s.governs) ∙ off

    off_mate : is_governed_by id x.mate ≡ false
    off_mate = not_governed id s.id x.mate s.governs_mate apart_id

    list_second : (b : Bool) → is_eq (text_cmp x.other x.key) ≡ b → list_of (with_exchange m x) id ≡ list_of one id
    list_second true e =
        let same : x.other ≡ x.key = same_name x.other x.key e in
        let both : Some x.mate ≡ Some x.row = sym can.there ∙ ap (row_of m) same ∙ can.here in
        let rows : x.mate ≡ x.row = cc in
        let there : row_of one x.other ≡ Some (with_issued_time x.row x.time) = at-put x.other x.key (with_issued_time x.row x.time) m.rows ∙ ap (λ b. cond b (Some (with_issued_time x.row x.time)) (row_of m x.other)) e in
        list_stays one x.other id (with_issued_time x.row x.time) (with_issued_time x.mate x.cto) sorted there
        (λ measure. forced_stance id measure (with_issued_time x.mate x.cto) off_mate ∙ ap (λ (r : Row). option_map (λ (eto : ℕ). Forced eto) (subject r.plan (regulation id measure))) rows
        ∙ sym (forced_stance id measure (with_issued_time x.row x.time) off))
    list_second false e =
        let there : row_of one x.other ≡ Some x.mate = at-put_other x.other x.key (with_issued_time x.row x.time) m.rows e ∙ can.there in
        list_stays one x.other id x.mate (with_issued_time x.mate x.cto) sorted there (unmoved id x.mate x.cto off_mate)
