use Rattle.std.proofs.Common.{rules}
use Rattle.std.proofs.lemmas.List.Sorted.{answers_always}
use Rattle.casa_list.proofs.Searched.{assigned_before, assigned_order}
use Rattle.casa_list.proofs.build.sort_seats.Goals as goal

pub returns : goal.returns
returns c = c.in_ok-put_in_order.ensures.order assigned_before assigned_order (answers_always _ _ _ (λ f a r g h. search rules))
