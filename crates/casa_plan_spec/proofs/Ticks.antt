-- the clock moves
use Rattle.std.proofs.Common.{◌≡◌, ℕ, List, [], ◌∷◌, Bool, true, false, not, refl, sym, ap, subst, ◌∙◌, ◌&&◌, ◌||◌, Option, None, Some, is_some, nat_lt, unwrap_or}
use Rattle.std.specs.Option.{option_map, option_map_or}
use Rattle.std.specs.List.{AllByRecursion, list_any, cons_option}
use Rattle.std.specs.List.Sorted.{IsStrictlySortedBy}
use Rattle.casa_flight.specs.declared.call.Call.TheVariants.{Tick}
use Rattle.casa_flight.specs.declared.call.Refusal.TheVariants.{BackInTime}
use Rattle.casa_flight.specs.declared.reply.Answer.TheVariants.{Done}
use Rattle.casa_flight.specs.declared.reply.Reply.TheVariants.{Answered}
use Rattle.casa_flight.specs.declared.row.Row.{Row}
use Rattle.casa_flight.specs.declared.state.State.{State}
use Rattle.casa_filing.specs.Text.{Text}
use Rattle.casa_filing.specs.Subject.{is_due}
use Rattle.casa_flight.specs.State.{row_of, is_governed_by}
use Rattle.casa_flight.specs.Entry.{is_to_issue, issue_if, issue_due}
use Rattle.casa_flight.specs.Steps.{tick as step_tick}
use Rattle.casa_flight.specs.Good.{AreInOrder, IsGood}
use Rattle.casa_filing.proofs.Entries.{text_cmp, sorted-put, all-each, all-filter_map, each_found, keys-map}
use Rattle.casa_laws.proofs.ChangeMessages.{stays}
use Rattle.casa_laws.proofs.InOrder.{all-always}
use Rattle.casa_footprint.specs.Items.{moment, regulations}
use Rattle.casa_footprint.specs.Finding.{due_keys}
use Rattle.casa_plan_spec.specs.Sight.{Sight, Written, nothing_written, clock_in, IsSightOf, IsAnswerIn, IsPlanned, row_in}
use Rattle.casa_plan_spec.specs.Messages.{messages_shown}
use Rattle.casa_plan_spec.specs.Issue.{issued_row, with_issued_row, with_issue, with_issues, clock_written, tick_written, tick_if, tick}
use Rattle.casa_plan_spec.proofs.Changes.{refusal, acceptance}
use Rattle.casa_plan_spec.proofs.Board.{Shows, says_shown}
use Rattle.casa_plan_spec.proofs.Messages.{messages_are}
use Rattle.casa_plan_spec.proofs.Held.{IsHeld, held_by}
use Rattle.casa_plan_spec.proofs.Issued.{Issues, issues, issue_each, governs_among, key_if, at_once, among_due, due_rising}

-- the rows of a change stay in the order of their keys
pub issues_ordered : (v : Sight) (w : Written) (keys : List Text) → AreInOrder w.rows → AreInOrder (with_issues v w keys).rows
issues_ordered v w [] sorted = sorted
issues_ordered v w (key ∷ keys) sorted = issues_ordered v (with_issue v w key) keys (by (row_in v key))
  where
    by : (row : Option Row) → AreInOrder (option_map_or (λ (row : Row). with_issued_row v w key (issued_row v key row)) row w).rows
    by None = sorted
    by (Some row) = sorted-put key (Some (issued_row v key row)) w.rows sorted

-- a flight that is due is governed
due_held : (m : State) (at : ℕ) → IsGood m → AllByRecursion (IsHeld (record m { clock = at })) (due_keys at m.rows)
due_held m at good =
    all-filter_map (λ (e : Text × Row). row_of m e.0 ≡ Some e.1) (IsHeld (record m { clock = at })) (λ (e : Text × Row). key_if (is_to_issue at e.1) e.0)
    (λ e k found h. by e k found e.1.governing refl h) m.rows (each_found m.rows good.rows_in_order)
  where
    same_key : (e : Text × Row) (k : Text) (b : Bool) → IsHeld (record m { clock = at }) e.0 → key_if b e.0 ≡ Some k → IsHeld (record m { clock = at }) k
    same_key e k true x h = let same : e.0 ≡ k = cc in subst (IsHeld (record m { clock = at })) same x
    same_key e k false x h = cc

    by : (e : Text × Row) (k : Text) → row_of m e.0 ≡ Some e.1 → (g : Option Text) → e.1.governing ≡ g → key_if (is_to_issue at e.1) e.0 ≡ Some k → IsHeld (record m { clock = at }) k
    by e k found None governs h =
        let none : None ≡ Some k = sym (ap (λ (w : Option Text). key_if (is_some w && (not (is_some e.1.issued) && is_due at e.1.plan)) e.0) governs) ∙ h in cc
    by e k found (Some id) governs h = same_key e k (is_to_issue at e.1) (held_by m at e.0 id e.1 good found governs) h

-- whose list is written
due_governed : (v : Sight) (at : ℕ) (id : Text) (rows : List (Text × Row)) → AllByRecursion (λ (e : Text × Row). row_in v e.0 ≡ Some e.1) rows
    → governs_among v id (due_keys at rows) ≡ list_any (λ (e : Text × Row). is_to_issue at e.1 && is_governed_by id e.1) rows
due_governed v at id [] found = refl
due_governed v at id (e ∷ es) found = by (is_to_issue at e.1) ∙ ap (λ b. (is_to_issue at e.1 && is_governed_by id e.1) || b) (due_governed v at id es found.1)
  where
    by : (b : Bool) → governs_among v id (cons_option (key_if b e.0) (due_keys at es)) ≡ ((b && is_governed_by id e.1) || governs_among v id (due_keys at es))
    by true = ap (λ (w : Option Row). option_map_or (is_governed_by id) w false || governs_among v id (due_keys at es)) found.0
    by false = refl

ticks : (m : State) (at : ℕ) (v : Sight) → IsGood m → IsSightOf m (Tick at) v → nat_lt at m.clock ≡ false → IsAnswerIn m (Tick at) (tick_if v at false)
unfolding IsStrictlySortedBy
ticks m at v good is back =
    let start : State = record m { clock = at } in
    let n : State = issue_due start in
    let keys : List Text = due_keys at v.rows in
    let w : Written = tick_written v at in
    let rows : v.rows ≡ m.rows = is.rows (λ q. refl) in
    let ordered : AreInOrder v.rows = subst (λ (es : List (Text × Row)). AreInOrder es) (sym rows) good.rows_in_order in
    let same_keys : due_keys at m.rows ≡ keys = ap (due_keys at) (sym rows) in
    let before : Shows v nothing_written m = record { rows = λ q. is.row q refl; lists = λ q. is.list q refl; stands = refl } in
    let begun : Shows v (clock_written at) start = record { rows = λ q. is.row q refl; lists = λ q. is.list q refl; stands = refl } in
    let held : AllByRecursion (IsHeld start) keys = subst (AllByRecursion (IsHeld start)) same_keys (due_held m at good) in
    let all : Issues v (clock_written at) start start keys =
    issues v (clock_written at) start start keys (record { rows = λ q. is.row q refl; lists = λ q. is.list q refl; stands = refl }) good.rows_in_order begun good.rows_in_order refl (due_rising at v.rows ordered) (all-always (λ (k : Text). row_of m k ≡ row_of m k) (λ k. refl) keys) held in
    let ends : issue_each start start keys ≡ n = ap (issue_each start start) (sym same_keys) ∙ at_once start good.rows_in_order (subst (AllByRecursion (IsHeld start)) (sym same_keys) held) in
    let shows : Shows v w n = subst (Shows v w) ends all.shows in
    let sorted : AreInOrder n.rows = subst (IsStrictlySortedBy text_cmp) (sym (keys-map (λ (e : Text × Row). issue_if (is_to_issue at e.1) start e.0 e.1) m.rows)) good.rows_in_order in
    let told = messages_are m n v w good sorted (issues_ordered v (clock_written at) keys tt) before shows (λ key id row none found governs. stays m n id (λ a opened. opened)) in
    acceptance m (Tick at) n (Answered Done (messages_shown v w)) w (ap (step_tick m at) back) (sym (ap (Answered Done) told))
    (says_shown m (Tick at) v w n shows (ap (option_map moment) all.clock) (ap (option_map regulations) all.catalogue)
    (λ q. all.rows q ∙ among_due at q v.rows ordered ∙ ap (λ (r : Option Row). option_map_or (is_to_issue at) r false) (is.row q refl))
    (λ id. all.lists id ∙ ap (governs_among v id) (sym same_keys) ∙ due_governed v at id m.rows
    (all-each (λ (e : Text × Row). row_of m e.0 ≡ Some e.1) (λ (e : Text × Row). row_in v e.0 ≡ Some e.1) (λ e h. is.row e.0 refl ∙ h) m.rows (each_found m.rows good.rows_in_order))))

pub tick_planned : (v : Sight) (at : ℕ) → IsPlanned v (Tick at) (tick v at)
tick_planned v at m good is = by (nat_lt at (clock_in v)) refl
  where
    clock : clock_in v ≡ m.clock
    clock = ap (λ (o : Option ℕ). unwrap_or o 0) (is.clock refl)

    by : (b : Bool) → nat_lt at (clock_in v) ≡ b → IsAnswerIn m (Tick at) (tick_if v at b)
    by true h = refusal m (Tick at) BackInTime (ap (step_tick m at) (ap (nat_lt at) (sym clock) ∙ h))
    by false h = ticks m at v good is (ap (nat_lt at) (sym clock) ∙ h)
