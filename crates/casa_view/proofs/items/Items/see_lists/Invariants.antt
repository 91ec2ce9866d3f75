use Rattle.std.proofs.Common.{◌||◌, Bool, is_some, take}
use Rattle.casa_filing.specs.Text.{Text, at_name}
use Rattle.casa_view.specs.Taking.{Sees}
use Rattle.casa_view.proofs.items.Items.see_lists.Given as goal

abbrev pub invariant-loop-id : goal.invariant-loop-id
invariant-loop-id g l =
    (t : Text → Bool) → Sees l.self.lists.entries t l.initial.noted →
    Sees l.self.lists.entries (λ q. is_some (at_name (take l.id-index l.id-items) q) || t q) l.noted
