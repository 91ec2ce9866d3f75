use Rattle.std.proofs.Common.{◌≡◌, rules}
use Rattle.std.specs.List.{dedup}
use Rattle.std.proofs.lemmas.Fn.{dedup_same}
use Rattle.std.proofs.lemmas.List.Sorted.{answers_always}
use Rattle.casa_table.proofs.Once.{comes_before, is_same, flights_order, once_ordered, once_there, once_rows}
use Rattle.casa_table.proofs.asking.put_in_order.Goals as goal

left : (c : goal.After-dedup_by_key) → c.dedup_by_key.new.self.items ≡ dedup is_same c.sort_unstable_by.new.self.items
left c = dedup_same _ is_same _ (λ x y b f' x' y' k. search rules) _ _ c.dedup_by_key.ensures.filtered

pub returns-clause-ordered : goal.returns-clause-ordered
returns-clause-ordered c =
    once_ordered _ _ _ c.sort_unstable_by.ensures.permutation (left c)
    (c.sort_unstable_by.ensures.sorted comes_before flights_order (answers_always _ _ _ (λ f a r g h. search rules)))

pub returns-clause-same : goal.returns-clause-same
returns-clause-same c = once_there _ _ _ c.sort_unstable_by.ensures.permutation (left c)

pub returns-clause-rows : goal.returns-clause-rows
returns-clause-rows c = once_rows _ _ _ c.sort_unstable_by.ensures.permutation (left c)
