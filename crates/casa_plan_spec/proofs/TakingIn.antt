-- a regulation that opens or ends later takes flights in
use Rattle.std.proofs.Common.{◌≡◌, ℕ, List, [], ◌∷◌, map, Bool, true, false, refl, sym, ap, subst, ◌∙◌, ◌||◌, Option, None, Some, is_some, if◌then◌else◌, unwrap_or}
use Rattle.std.specs.declared.cmp.Ordering.TheVariants.{Less, Equal, Greater}
use Rattle.std.specs.Ordering.{is_eq, match_ordering}
use Rattle.std.specs.Option.{option_map, option_map_or}
use Rattle.std.specs.List.{AllByRecursion}
use Rattle.std.specs.List.Sorted.{IsStrictlySortedBy}
use Rattle.casa_grid.specs.declared.period.Period.{Period}
use Rattle.casa_flight.specs.declared.call.Call.{Call}
use Rattle.casa_flight.specs.declared.comp.Comp.{Comp}
use Rattle.casa_flight.specs.declared.reply.Answer.TheVariants.{Done}
use Rattle.casa_flight.specs.declared.reply.Reply.TheVariants.{Answered}
use Rattle.casa_filing.specs.declared.regulation.Measure.{Measure}
use Rattle.casa_filing.specs.declared.regulation.Regulation.{Regulation}
use Rattle.casa_flight.specs.declared.row.Row.{Row}
use Rattle.casa_flight.specs.declared.state.State.{State}
use Rattle.casa_filing.specs.Text.{Text, same_text, put}
use Rattle.casa_filing.specs.Subject.{regulation, subject}
use Rattle.casa_flight.specs.State.{row_of, measure_of, catalogue}
use Rattle.casa_flight.specs.Listing.{Listing, listing, list_of}
use Rattle.casa_flight.specs.Steps.{flights_over, may_compete, take_in, leads, step, after}
use Rattle.casa_flight.specs.Replies.{answer, messages}
use Rattle.casa_flight.specs.Good.{IsGood}
use Rattle.casa_filing.proofs.Entries.{text_cmp, same_name, apart, named, all-each, each_found, at-put_same, at-put_other, sorted-put}
use Rattle.casa_laws.proofs.EnterAll.{all-flights_over}
use Rattle.casa_laws.proofs.GoodRegs.{next-good}
use Rattle.casa_laws.proofs.ChangeMessages.{StaysOpen}
use Rattle.casa_laws.proofs.RegMessages.{regs-take_in}
use Rattle.casa_footprint.specs.Items.{ItemName, the_clock, the_catalogue, a_row, a_list, moment, regulations}
use Rattle.casa_footprint.specs.Finding.{by_id}
use Rattle.casa_footprint.specs.Footprint.{reads, would_write, is_subject, is_list_of, enters_at}
use Rattle.casa_footprint.proofs.OpenClose.{subject_to_none}
use Rattle.casa_plan_spec.specs.Sight.{Sight, Written, nothing_written, IsSightOf, IsAnswerIn, clock_in, regulations_in, list_in, row_in}
use Rattle.casa_plan_spec.specs.Enter.{with_entries}
use Rattle.casa_plan_spec.specs.TakingIn.{with_regulation, list_over, taking_in}
use Rattle.casa_plan_spec.specs.Messages.{messages_shown, answer_done}
use Rattle.casa_plan_spec.proofs.Changes.{acceptance, at-put_by}
use Rattle.casa_plan_spec.proofs.Board.{Shows, says_shown}
use Rattle.casa_plan_spec.proofs.Messages.{messages_are}
use Rattle.casa_plan_spec.proofs.Entries.{lists_among, AreThere, Entries, entries, entries_ordered}
use Rattle.casa_plan_spec.proofs.Among.{among_over}

-- regulations listed under their identifiers are these regulations
pub values-by_id : (rs : List Regulation) → map (λ (e : Text × Regulation). e.1) (by_id rs) ≡ rs
values-by_id [] = refl
values-by_id (r ∷ rs) = ap (λ (q : List Regulation). r ∷ q) (values-by_id rs)

-- the catalogue with this regulation
catalogue-put : (id : Text) (measure : Measure) (regs : List (Text × Measure))
    → with_regulation (regulation id measure) (map (λ (e : Text × Measure). regulation e.0 e.1) regs) ≡ map (λ (e : Text × Measure). regulation e.0 e.1) (put regs id measure)
catalogue-put id measure [] = refl
catalogue-put id measure (e ∷ es) =
    let f : Text × Measure → Regulation = λ e. regulation e.0 e.1 in
    let value : Text × Regulation → Regulation = λ e. e.1 in
    let r : Regulation = regulation id measure in
    let rest : List (Text × Regulation) = by_id (map f es) in
    elim (text_cmp id e.0) as (λ t. text_cmp id e.0 ≡ t → map value (match_ordering t ((id, r) ∷ (e.0, f e) ∷ rest) ((e.0, r) ∷ rest) ((e.0, f e) ∷ put rest id r)) ≡ map f (match_ordering t ((id, measure) ∷ e ∷ es) ((e.0, measure) ∷ es) (e ∷ put es id measure))) [
      | Less ↦ λ t. ap (λ (rs : List Regulation). r ∷ f e ∷ rs) (values-by_id (map f es))
      | Equal ↦ λ t. λ i. regulation (same_name id e.0 (ap is_eq t) i) measure ∷ values-by_id (map f es) i
      | Greater ↦ λ t. ap (λ (rs : List Regulation). f e ∷ rs) (catalogue-put id measure es)
    ] refl

-- a call by which the regulation under an identifier, with this measure, takes flights in: all items are read, each open
-- regulation stays open, and written are the catalogue, the list and the rows of the flights that enter
pub record TakesIn (m : State) (call : Call) (id : Text) (measure : Measure) : Type 0 where
  pub stepped : step m call ≡ leads (take_in m id measure)
  pub answered : (n : State) → answer n call ≡ Done
  pub lasts : (by : Text) → StaysOpen m (take_in m id measure) by
  pub all_read : (i : ItemName) → reads m call i ≡ true
  pub clock : would_write m call the_clock ≡ false
  pub catalogue : would_write m call the_catalogue ≡ true
  pub rows : (key : Text) → would_write m call (a_row key) ≡ enters_at m (regulation id measure) key
  pub lists : (other : Text) → would_write m call (a_list other) ≡ same_text id other

-- the change of taking in, from what the view shows
abbrev change_by : Sight → Regulation → List Period → ℕ → List Regulation → List (Text × Row) → Written
change_by v r profile clock rs rows =
    with_entries clock rs v (record nothing_written { catalogue = Some rs; lists = put [] r.id (Some (list_over rows r profile)) })
    (flights_over (may_compete clock) r rows)

pub takes_in : (m : State) (call : Call) (id : Text) (measure : Measure) (v : Sight) → IsGood m → IsSightOf m call v → TakesIn m call id measure
    → IsAnswerIn m call (answer_done v (taking_in v (regulation id measure) measure.profile))
unfolding IsStrictlySortedBy
takes_in m call id measure v good is takes =
    let all : Entries m.clock rs v begin started cs =
    entries m.clock rs v begin started cs refl (sym new) begun good.rows_in_order (sorted-put id measure m.regs good.regs_in_order) there in
    let shows : Shows v w n = all.shows in
    let then_good : IsGood n = subst (λ s. IsGood (after m s)) takes.stepped (next-good m call good) in
    let told : messages m n ≡ messages_shown v w =
    messages_are m n v w good then_good.rows_in_order (entries_ordered m.clock rs v begin cs tt) before shows (λ key by row none found governs. takes.lasts by) in
    subst (λ (x : Written). IsAnswerIn m call (answer_done v x)) (sym change_is)
    (acceptance m call n (Answered Done (messages_shown v w)) w takes.stepped
    (ap (Answered Done) (sym told) ∙ ap (λ a. Answered a (messages m n)) (sym (takes.answered n)))
    (says_shown m call v w n shows
    (ap (option_map moment) all.clock_kept ∙ sym (ap (λ b. if b then Some (moment n.clock) else None) takes.clock))
    (ap (option_map regulations) all.catalogue_kept
    ∙ ap (λ q. Some (regulations q)) (new ∙ sym (ap (map (λ (e : Text × Measure). regulation e.0 e.1)) (regs-take_in m id measure)))
    ∙ sym (ap (λ b. if b then Some (regulations (catalogue n)) else None) takes.catalogue))
    (λ q. all.rows q ∙ among_over (may_compete m.clock) r q m.rows good.rows_in_order ∙ sym (takes.rows q))
    (λ q. all.lists q ∙ ap (λ b. b || lists_among started q cs) (ap is_some (at-put_by q id (Some list) []) ∙ some_if (same_text id q)) ∙ its_own q (same_text id q) refl ∙ sym (takes.lists q))))
  where
    r : Regulation
    r = regulation id measure

    list : Listing
    list = list_over m.rows r measure.profile

    rs : List Regulation
    rs = with_regulation r (catalogue m)

    begin : Written
    begin = record nothing_written { catalogue = Some rs; lists = put [] id (Some list) }

    cs : List Comp
    cs = flights_over (may_compete m.clock) r m.rows

    w : Written
    w = with_entries m.clock rs v begin cs

    started : State
    started = record m { regs = put m.regs id measure }

    n : State
    n = take_in m id measure

    new : rs ≡ catalogue started
    new = catalogue-put id measure m.regs

    row_is : (q : Text) → row_in v q ≡ row_of m q
    row_is q = is.row q (takes.all_read (a_row q))

    list_is : (q : Text) → list_in v q ≡ list_of m q
    list_is q = is.list q (takes.all_read (a_list q))

    clock_is : clock_in v ≡ m.clock
    clock_is = ap (λ w. unwrap_or w 0) (is.clock (takes.all_read the_clock))

    regulations_are : regulations_in v ≡ catalogue m
    regulations_are = ap (λ w. unwrap_or w []) (is.catalogue (takes.all_read the_catalogue))

    rows_are : v.rows ≡ m.rows
    rows_are = is.rows (λ q. takes.all_read (a_row q))

    change_is : taking_in v r measure.profile ≡ w
    change_is = λ i. change_by v r measure.profile (clock_is i) (with_regulation r (regulations_are i)) (rows_are i)

    some_if : (b : Bool) → is_some (if b then Some (Some list) else None) ≡ b
    some_if true = refl
    some_if false = refl

    before : Shows v nothing_written m
    before = record { rows = row_is; lists = list_is; stands = refl }

    found : AllByRecursion (λ (e : Text × Row). row_of m e.0 ≡ Some e.1) m.rows
    found = each_found m.rows good.rows_in_order

    measures : (other : Text) → same_text id other ≡ false → measure_of started other ≡ measure_of m other
    measures other h = at-put_other other id measure m.regs (apart id other h)

    list_now : list_of started id ≡ Some list
    list_now = ap (option_map (listing m.rows id)) (at-put_same id measure m.regs)

    begun : Shows v begin started
    begun = record {
      rows = row_is;
      stands = refl;
      lists = λ q.
          ap (λ o. unwrap_or o (list_in v q)) (at-put_by q id (Some list) []) ∙
          (elim (same_text id q) as (λ b. same_text id q ≡ b → unwrap_or (if b then Some (Some list) else None) (list_in v q) ≡ list_of started q) [
            | true ↦ λ h. sym (subst (λ t. list_of started t ≡ Some list) (named id q h) list_now)
            | false ↦ λ h. list_is q ∙ ap (option_map (listing m.rows q)) (sym (measures q h))
          ] refl);
    }

    there : AreThere started cs
    there = all-flights_over (λ (key : Text). is_some (row_of started key) ≡ true) (may_compete m.clock) r m.rows
        (all-each (λ (e : Text × Row). row_of m e.0 ≡ Some e.1) (λ (e : Text × Row). may_compete m.clock e.1 ≡ true → is_some (subject e.1.plan r) ≡ true → is_some (row_of started e.0) ≡ true)
        (λ e f a b. ap is_some f) m.rows found)

    -- what may compete is subject to nothing that was open
    no_other : (q : Text) → same_text id q ≡ false → AllByRecursion (λ (c : Comp). is_list_of started c.key q ≡ false) cs
    no_other q h = all-flights_over (λ (key : Text). is_list_of started key q ≡ false) (may_compete m.clock) r m.rows
        (all-each (λ (e : Text × Row). row_of m e.0 ≡ Some e.1) (λ (e : Text × Row). may_compete m.clock e.1 ≡ true → is_some (subject e.1.plan r) ≡ true → is_list_of started e.0 q ≡ false)
        (λ e f a b. ap (λ (o : Option Row). option_map_or (λ (row : Row). is_subject started row.plan q) o false) f
        ∙ ap (λ (w : Option Measure). option_map_or (λ (y : Measure). is_some (subject e.1.plan (regulation q y))) w false) (measures q h) ∙ subject_to_none m e.0 e.1 q good f a) m.rows found)

    none_of : (q : Text) (ds : List Comp) → AllByRecursion (λ (c : Comp). is_list_of started c.key q ≡ false) ds → lists_among started q ds ≡ false
    none_of q [] h = refl
    none_of q (d ∷ ds) h = ap (λ b. b || lists_among started q ds) h.0 ∙ none_of q ds h.1

    its_own : (q : Text) (b : Bool) → same_text id q ≡ b → (b || lists_among started q cs) ≡ b
    its_own q true h = refl
    its_own q false h = none_of q cs (no_other q h)
