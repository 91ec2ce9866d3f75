use Rattle.std.proofs.Common.{rules, ℕ}
use Rattle.std.proofs.lemmas.List.Sorted.{answers_always}
use Rattle.casa_filing.specs.Text.{Text}
use Rattle.casa_item.proofs.Sorted.{names_order, sorted_row}
use Rattle.casa_item.proofs.crossings.Entries.sort.Goals as goal

pub returns : goal.returns
returns c = λ es sorted all.
    sorted_row es c.self.inside.alone _ _ sorted c.self.invariant c.sort_unstable_by.ensures.permutation
    (c.sort_unstable_by.ensures.sorted _ (names_order (λ (e : Text × ℕ). e.0)) (answers_always _ _ _ (λ f a r g h. search rules)))
    (rw c.self.view_is all)
