use Rattle.std.proofs.Common.{◌||◌, ◌&&◌, List, Bool, Option, take}
use Rattle.std.specs.List.{list_any}
use Rattle.casa_flight.specs.declared.row.Stance.{Stance}
use Rattle.casa_filing.specs.Text.{Text, same_text}
use Rattle.casa_footprint.specs.Footprint.{is_forced}
use Rattle.casa_view.specs.Board.{versions}
use Rattle.casa_view.specs.Taking.{Sees, is_of, governing_at}
use Rattle.casa_view.proofs.items.Items.see_forced.Given as goal

abbrev pub invariant-loop-member : goal.invariant-loop-member
invariant-loop-member g l =
    let past : List (Text × Stance) = take l.member-index l.member-items in
    let governing : Text → Option Text = governing_at g.V.Version.item_of (versions l.self) in
    ((t : Text → Bool) → Sees l.self.rows.entries t l.initial.rows →
    Sees l.self.rows.entries
    (λ q. list_any (λ (e : Text × Stance). is_forced e.1 && same_text e.0 q) past || t q)
    l.rows)
    × ((t : Text → Bool) → Sees l.self.lists.entries t l.initial.lists →
    Sees l.self.lists.entries
    (λ q. list_any (λ (e : Text × Stance). is_forced e.1 && is_of (governing e.0) q) past || t q)
    l.lists)
