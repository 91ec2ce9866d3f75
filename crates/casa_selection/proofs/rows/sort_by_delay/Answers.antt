use Rattle.std.proofs.Common.{rules}
use Rattle.std.proofs.lemmas.List.Sorted.{answers_always}
use Rattle.casa_selection.specs.Rows.{waits_longer}
use Rattle.casa_selection.proofs.ByDelay.{delays_order, sorted_by_delay}
use Rattle.casa_selection.proofs.rows.sort_by_delay.Goals as goal

pub returns-clause-sorted : goal.returns-clause-sorted
returns-clause-sorted c =
    let answers = answers_always _ _ _ (λ f a r g h. search rules) in
    sorted_by_delay c.args.rows.now.items c.sort_by.new.self.items
    (c.in_ok-sort_by.ensures.sorted waits_longer delays_order answers)
    (c.in_ok-sort_by.ensures.stable waits_longer delays_order answers)
