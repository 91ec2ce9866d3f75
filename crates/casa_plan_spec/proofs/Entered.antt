-- flights that enter one by one
use Rattle.std.proofs.Common.{◌≡◌, refl, sym, ap, subst, ◌∙◌, Option, None, Some}
use Rattle.casa_filing.specs.declared.regulation.Measure.{Measure}
use Rattle.casa_flight.specs.declared.row.Row.{Row}
use Rattle.casa_flight.specs.declared.state.State.{State}
use Rattle.casa_filing.specs.Text.{Text}
use Rattle.casa_flight.specs.State.{row_of, measure_of, catalogue, ungoverned}
use Rattle.casa_flight.specs.Entry.{Situation, situation, row_after_entry, reenter}
use Rattle.casa_flight.specs.Good.{AreInOrder}
use Rattle.casa_filing.proofs.Entries.{sorted-put}
use Rattle.casa_plan_spec.specs.Sight.{Sight, Written, row_with}
use Rattle.casa_plan_spec.specs.Write.{stances}
use Rattle.casa_plan_spec.specs.Enter.{situation_with, with_entry, with_reentry}
use Rattle.casa_plan_spec.proofs.Board.{Shows}
use Rattle.casa_plan_spec.proofs.Crossings.{time_over}
use Rattle.casa_plan_spec.proofs.Stances.{once-stances}
use Rattle.casa_plan_spec.proofs.Written.{flight_shown, all_covered}

sighted : (v : Sight) (w : Written) (s : State) → Shows v w s → situation_with s.clock (catalogue s) v w ≡ situation s
sighted v w s shows = λ i. record { clock = s.clock; regulations = catalogue s; lists = λ id. shows.lists id i }

-- what is written where a flight enters anew, in a state that is shown
pub reentry_is : (v : Sight) (w : Written) (s : State) (key : Text) (row : Row) → Shows v w s → row_of s key ≡ Some row
    → with_reentry s.clock (catalogue s) v w key (row_with v w key) ≡ with_entry s.clock (catalogue s) v w key (ungoverned row) (row_after_entry (situation s) key (ungoverned row))
reentry_is v w s key row shows found =
    ap (with_reentry s.clock (catalogue s) v w key) (shows.rows key ∙ found)
    ∙ ap (λ (t : Situation). with_entry s.clock (catalogue s) v w key (ungoverned row) (row_after_entry t key (ungoverned row))) (sighted v w s shows)

-- a freed flight is subject to what it was subject to
freed_over : (id : Text) (row : Row) (w : Option Measure) → time_over id w (Some (ungoverned row)) ≡ time_over id w (Some row)
freed_over id row None = refl
freed_over id row (Some measure) = refl

pub reentry_shown : (v : Sight) (w : Written) (s : State) (key : Text) → Shows v w s → AreInOrder s.rows → AreInOrder s.regs
    → Shows v (with_reentry s.clock (catalogue s) v w key (row_with v w key)) (reenter s key (row_of s key))
reentry_shown v w s key shows sorted regs = by (row_of s key) refl
  where
    by : (o : Option Row) → row_of s key ≡ o → Shows v (with_reentry s.clock (catalogue s) v w key (row_with v w key)) (reenter s key o)
    by None found = subst (λ o. Shows v (with_reentry s.clock (catalogue s) v w key o) s) (sym (shows.rows key ∙ found)) shows
    by (Some row) found =
        let new : Row = row_after_entry (situation s) key (ungoverned row) in
        subst (λ x. Shows v x (reenter s key (Some row))) (sym (reentry_is v w s key row shows found))
        (flight_shown v w s key (Some new) (stances (catalogue s) (Some (ungoverned row)) (Some new)) shows sorted (once-stances s (Some (ungoverned row)) (Some new) regs)
        (all_covered s key (Some (ungoverned row)) (Some new) regs (λ id. freed_over id row (measure_of s id) ∙ ap (time_over id (measure_of s id)) (sym found))))

pub reentry_sorted : (s : State) (key : Text) → AreInOrder s.rows → AreInOrder (reenter s key (row_of s key)).rows
reentry_sorted s key sorted = by (row_of s key)
  where
    by : (w : Option Row) → AreInOrder (reenter s key w).rows
    by None = sorted
    by (Some row) = sorted-put key (row_after_entry (situation s) key (ungoverned row)) s.rows sorted

pub reentry_clock : (s : State) (key : Text) → (reenter s key (row_of s key)).clock ≡ s.clock
reentry_clock s key = by (row_of s key)
  where
    by : (w : Option Row) → (reenter s key w).clock ≡ s.clock
    by None = refl
    by (Some row) = refl

pub reentry_regs : (s : State) (key : Text) → (reenter s key (row_of s key)).regs ≡ s.regs
reentry_regs s key = by (row_of s key)
  where
    by : (w : Option Row) → (reenter s key w).regs ≡ s.regs
    by None = refl
    by (Some row) = refl
