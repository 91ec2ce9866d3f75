-- rows that a stable sort puts in the order of their delays
use Rattle.std.proofs.Common.{◌≡◌, List, [], ◌∷◌, reverse, refl, sym, ap, subst, ◌∙◌}
use Rattle.std.specs.Cmp.{IsStrictWeakOrder}
use Rattle.std.specs.List.Sorted.{IsSortedBy, IsStableBy}
use Rattle.std.proofs.lemmas.List.{reverse-append, reverse-reverse}
use Rattle.std.proofs.lemmas.List.Sorted.{IsStrictWeakOrder-by_number, IsStrictWeakOrder-flip}
use Rattle.std.proofs.lemmas.List.Sums.{fold-append}
use Rattle.casa_flight.specs.Listing.{insert_sorted, sorted_by}
use Rattle.casa_flight.proofs.Sorting.{sorted_stably}
use Rattle.casa_selection.specs.declared.rows.ReportRow.{ReportRow}
use Rattle.casa_selection.specs.Rows.{by_delay, delay_in_list, waits_longer}

-- who waits longer comes first
pub delays_order : IsStrictWeakOrder waits_longer
delays_order = IsStrictWeakOrder-flip _ (IsStrictWeakOrder-by_number (λ (r : ReportRow). delay_in_list r.row))

-- put in one by one, the last first
from_last : (rows : List ReportRow) → sorted_by waits_longer (reverse rows) ≡ by_delay rows
from_last [] = refl
from_last (r ∷ rs) =
    ap (sorted_by waits_longer) (reverse-append (r ∷ []) rs)
    ∙ fold-append (λ (ys : List ReportRow) (x : ReportRow). insert_sorted waits_longer x ys) [] (reverse rs) (r ∷ [])
    ∙ ap (insert_sorted waits_longer r) (from_last rs)

pub sorted_by_delay : (before after : List ReportRow) → IsSortedBy waits_longer after → IsStableBy waits_longer before after → after ≡ by_delay before
sorted_by_delay before after up stable =
    sorted_stably waits_longer delays_order (reverse before) after up (subst (λ rows. IsStableBy waits_longer rows after) (sym (reverse-reverse before)) stable)
    ∙ from_last before
