-- flights that enter one by one: the lists that they leave as they were
use Rattle.std.proofs.Common.{◌≡◌, List, [], ◌∷◌, Bool, true, false, refl, sym, ap, subst, ◌∙◌, Option, None, Some}
use Rattle.std.specs.Option.{option_map_or}
use Rattle.std.specs.List.{AllByRecursion}
use Rattle.casa_flight.specs.declared.comp.Comp.{Comp}
use Rattle.casa_flight.specs.declared.row.Row.{Row}
use Rattle.casa_flight.specs.declared.state.State.{State}
use Rattle.casa_filing.specs.Text.{Text, same_text}
use Rattle.casa_filing.specs.FlightPlan.{FlightPlan}
use Rattle.casa_flight.specs.State.{row_of, with_row, ungoverned}
use Rattle.casa_flight.specs.Listing.{list_of}
use Rattle.casa_flight.specs.Entry.{situation, row_after_entry, enter_all, reenter}
use Rattle.casa_flight.specs.Good.{AreInOrder}
use Rattle.casa_filing.proofs.Entries.{all-each, at-put_same, sorted-put, named}
use Rattle.casa_footprint.specs.Footprint.{is_subject, is_list_of}
use Rattle.casa_footprint.proofs.Entering.{entered_own}
use Rattle.casa_footprint.proofs.OneFlight.{other_row, other_list, list_of_own}

-- rows and regulations come in the order of their names
abbrev pub IsOrdered : State → Type 0
IsOrdered s = AreInOrder s.rows × AreInOrder s.regs

ordered-reenter : (s : State) (key : Text) (w : Option Row) → IsOrdered s → IsOrdered (reenter s key w)
ordered-reenter s key None o = o
ordered-reenter s key (Some row) o = (sorted-put key (row_after_entry (situation s) key (ungoverned row)) s.rows o.0, o.1)

-- a flight that enters keeps its plan, and so its lists
not_list-reenter : (s : State) (key other id : Text) (w : Option Row) → row_of s key ≡ w → IsOrdered s → is_list_of s other id ≡ false → is_list_of (reenter s key w) other id ≡ false
not_list-reenter s key other id None e o h = h
not_list-reenter s key other id (Some row) e o h = by (same_text key other) refl
  where
    new : Row
    new = row_after_entry (situation s) key (ungoverned row)

    by : (b : Bool) → same_text key other ≡ b → is_list_of (with_row s key new) other id ≡ false
    by true n =
        let same : key ≡ other = named key other n in
        let old : is_subject s row.plan id ≡ false = sym (list_of_own s key row id e) ∙ subst (λ t. is_list_of s t id ≡ false) (sym same) h in
        let own = entered_own s key (ungoverned row) o.1 refl in
        subst (λ t. is_list_of (with_row s key new) t id ≡ false) same
        (list_of_own (with_row s key new) key new id (at-put_same key new s.rows) ∙ ap (λ (p : FlightPlan). is_subject s p id) own.1 ∙ old)
    by false n = ap (λ (v : Option Row). option_map_or (λ (r : Row). is_subject s r.plan id) v false) (other_row s key new other n) ∙ h

list-reenter : (s : State) (key id : Text) (w : Option Row) → row_of s key ≡ w → IsOrdered s → is_list_of s key id ≡ false → list_of (reenter s key w) id ≡ list_of s id
list-reenter s key id None e o h = refl
list-reenter s key id (Some row) e o h =
    let own = entered_own s key (ungoverned row) o.1 refl in
    other_list s key (row_after_entry (situation s) key (ungoverned row)) id o.0 h (ap (λ (p : FlightPlan). is_subject s p id) own.1 ∙ sym (list_of_own s key row id e) ∙ h)

-- a list stays to which none of the flights is subject
pub list-enter_all : (s : State) (id : Text) (cs : List Comp) → IsOrdered s → AllByRecursion (λ (c : Comp). is_list_of s c.key id ≡ false) cs → list_of (enter_all s cs) id ≡ list_of s id
list-enter_all s id [] o h = refl
list-enter_all s id (c ∷ cs) o h =
    let t : State = reenter s c.key (row_of s c.key) in
    list-enter_all t id cs (ordered-reenter s c.key (row_of s c.key) o)
    (all-each (λ (d : Comp). is_list_of s d.key id ≡ false) (λ (d : Comp). is_list_of t d.key id ≡ false) (λ d off. not_list-reenter s c.key d.key id (row_of s c.key) refl o off) cs h.1)
    ∙ list-reenter s c.key id (row_of s c.key) refl o h.0
