-- exchanges are named exactly where they are accepted, each other flight once
use Rattle.std.proofs.Common.{◌≡◌, ◌≢◌, ◌∙◌, Bool, true, false, cond, Option, None, Some, refl, ap, subst}
use Rattle.std.specs.List.{Contains}
use Rattle.std.specs.List.Sorted.{IsStrictlySortedBy}
use Rattle.std.specs.Prelude.{map}
use Rattle.std.proofs.lemmas.Bool.{both_ways, false_from_ne_true}
use Rattle.std.proofs.lemmas.Cmp.{nat_list_eq_equiv}
use Rattle.std.proofs.lemmas.List.Elements.{All-contains, All-from_recursion}
use Rattle.casa_filing.specs.Text.{Text, same_text}
use Rattle.casa_filing.proofs.Entries.{all-filter_map, named, text_cmp}
use Rattle.casa_flight.specs.declared.call.Call.TheVariants.{Swap}
use Rattle.casa_flight.specs.declared.row.Row.{Row}
use Rattle.casa_flight.specs.declared.state.State.{State}
use Rattle.casa_flight.specs.Good.{IsGood}
use Rattle.casa_flight.specs.Replies.{ctot_before as ctot_in}
use Rattle.casa_flight.specs.State.{row_of}
use Rattle.casa_flight.specs.Steps.{Step, leads, refused, step, swap}
use Rattle.casa_laws.proofs.InOrder.{all-always, names_rise, names_sorted}
use Rattle.casa_laws.proofs.Kept.{contains-given}
use Rattle.casa_inquiry.specs.declared.exchanging.PossibleExchange.{PossibleExchange}
use Rattle.casa_inquiry.specs.Exchanges.{exchange_after, exchange_with, exchanged, exchanges}

abbrev pub IsAccepted : State → Text → PossibleExchange → Type 0
IsAccepted m key x =
    (n : State) × (step m (Swap key x.other) ≡ leads n) × (key ≢ x.other) × (x.ctot ≡ ctot_in n key) × (x.other_ctot ≡ ctot_in n x.other)

-- an exchange that comes of the call, and whose it is
accepted_with : (m : State) (key other : Text) (x : PossibleExchange) → exchange_with m key other ≡ Some x → IsAccepted m key x × (x.other ≡ other)
accepted_with m key other x h = by (same_text key other) refl h
  where
    by_step : same_text key other ≡ false → (s : Step) → step m (Swap key other) ≡ s → exchange_after key other s ≡ Some x → IsAccepted m key x × (x.other ≡ other)
    by_step away (refused r) e h = cc
    by_step away (leads n) e h =
        let is : exchanged n key other ≡ x = cc in
        let apart : key ≢ other = λ same. both_ways _ away (subst (λ (q : Text). same_text key q ≡ true) same (nat_list_eq_equiv.refl key)) in
        subst (λ (y : PossibleExchange). IsAccepted m key y × (y.other ≡ other)) is ((n, e, apart, refl, refl), refl)

    by : (b : Bool) → same_text key other ≡ b → cond b None (exchange_after key other (step m (Swap key other))) ≡ Some x → IsAccepted m key x × (x.other ≡ other)
    by true same h = cc
    by false away h = by_step away (step m (Swap key other)) refl h

pub named_accepted : (m : State) (key : Text) (x : PossibleExchange) → Contains (exchanges m key) x → IsAccepted m key x
named_accepted m key x there =
    let with_row : Text × Row → Option PossibleExchange = λ e. exchange_with m key e.0 in
    All-contains (IsAccepted m key) (exchanges m key) x
    (All-from_recursion (IsAccepted m key) (exchanges m key)
    (all-filter_map (λ (e : Text × Row). Unit {0}) (IsAccepted m key) with_row (λ e y given is. (accepted_with m key e.0 y is).0) m.rows
    (all-always (λ (e : Text × Row). Unit {0}) (λ e. tt) m.rows))) there

-- an accepted exchange is with a flight that is filed
filed : (m n : State) (key other : Text) (v w : Option Row) → swap m key other v w ≡ leads n → (mate : Row) × (w ≡ Some mate)
filed m n key other None w h = cc
filed m n key other (Some row) None h = cc
filed m n key other (Some row) (Some mate) h = (mate, refl)

pub accepted_named : (m n : State) (key other : Text) → key ≢ other → step m (Swap key other) ≡ leads n → Contains (exchanges m key) (exchanged n key other)
accepted_named m n key other apart accepted =
    let mate = filed m n key other (row_of m key) (row_of m other) accepted in
    let away : same_text key other ≡ false = false_from_ne_true (same_text key other) (λ h. apart (named key other h)) in
    let is : exchange_with m key other ≡ Some (exchanged n key other) =
    ap (λ b. cond b None (exchange_after key other (step m (Swap key other)))) away ∙ ap (exchange_after key other) accepted in
    contains-given (λ (e : Text × Row). exchange_with m key e.0) other mate.0 (exchanged n key other) m.rows mate.1 is

pub named_once : (m : State) (key : Text) → IsGood m → IsStrictlySortedBy text_cmp (map (λ (x : PossibleExchange). x.other) (exchanges m key))
named_once m key good =
    let with_row : Text × Row → Option PossibleExchange = λ e. exchange_with m key e.0 in
    let other : PossibleExchange → Text = λ x. x.other in
    names_sorted other (exchanges m key) (names_rise other with_row (λ e x is. (accepted_with m key e.0 x is).1) m.rows good.rows_in_order)
