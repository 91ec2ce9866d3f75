-- a list without a flight, and with it again
use Rattle.std.proofs.Common.{◌≡◌, refl, sym, ap, subst, ◌∙◌, Bool, true, false, List, Option, None, Some}
use Rattle.std.specs.BTreeMap.{is_at}
use Rattle.std.specs.Ordering.{is_eq}
use Rattle.casa_flight.specs.declared.row.Stance.{Stance}
use Rattle.casa_filing.specs.Text.{Text, at_name, put, without}
use Rattle.casa_flight.specs.Listing.{Listing, stance_of}
use Rattle.casa_flight.specs.Good.{AreInOrder}
use Rattle.casa_filing.proofs.Entries.{text_cmp, same_name, sorted-put, sorted-remove, at-put_other, at-without_other}
use Rattle.casa_laws.proofs.Kept.{at-without_same, without_absent, put-without, put_same, same_entries}
use Rattle.casa_plan_spec.specs.Sight.{with_flight}

pub without_none : (l : Listing) (key : Text) → stance_of l key ≡ None → l ≡ with_flight l key None
without_none l key absent = ap (λ fs. record l { flights = fs }) (sym (without_absent key l.flights absent))

pub absent_without : (l k : Listing) (key : Text) → AreInOrder l.flights → k ≡ with_flight l key None → stance_of k key ≡ None
absent_without l k key sorted is = ap (λ (n : Listing). stance_of n key) is ∙ at-without_same key l.flights sorted

pub put_again : (l k n : Listing) (key : Text) (s : Stance) → AreInOrder l.flights → k ≡ with_flight l key None → n ≡ with_flight k key (Some s) → n ≡ with_flight l key (Some s)
put_again l k n key s sorted out back =
    back ∙ ap (λ (j : Listing). with_flight j key (Some s)) out ∙ ap (λ fs. record l { flights = fs }) (put-without key s l.flights sorted)

-- a flight that stands so already
pub with_same : (l : Listing) (key : Text) (w : Option Stance) → AreInOrder l.flights → stance_of l key ≡ w → with_flight l key w ≡ l
with_same l key None sorted stands = sym (without_none l key stands)
with_same l key (Some s) sorted stands = ap (λ fs. record l { flights = fs }) (put_same key s l.flights sorted stands)

-- a list with a flight that is not there, and without it again
at-without-put : {X : Type 0} (q key : Text) (x : X) (es : List (Text × X)) (b : Bool) → is_eq (text_cmp q key) ≡ b → AreInOrder es → at_name es key ≡ None → at_name (without (put es key x) key) q ≡ at_name es q
at-without-put q key x es true same sorted absent =
    subst (λ (k : Text). at_name (without (put es key x) key) k ≡ at_name es k) (sym (same_name q key same))
    (at-without_same key (put es key x) (sorted-put key x es sorted) ∙ sym absent)
at-without-put q key x es false other sorted absent =
    at-without_other q key (put es key x) other ∙ at-put_other q key x es other

without-put : {X : Type 0} (key : Text) (x : X) (es : List (Text × X)) → AreInOrder es → at_name es key ≡ None → without (put es key x) key ≡ es
without-put key x es sorted absent =
    same_entries (without (put es key x) key) es (sorted-remove (is_at (text_cmp key)) (put es key x) (sorted-put key x es sorted)) sorted
    (λ q. at-without-put q key x es (is_eq (text_cmp q key)) refl sorted absent)

pub out_again : (l k : Listing) (key : Text) (s : Stance) → AreInOrder l.flights → stance_of l key ≡ None → k ≡ with_flight l key (Some s) → with_flight k key None ≡ l
out_again l k key s sorted absent is =
    ap (λ (j : Listing). with_flight j key None) is ∙ ap (λ fs. record l { flights = fs }) (without-put key s l.flights sorted absent)
