use Rattle.std.proofs.Common.{◌≡◌, ap, sym, subst, ◌∙◌, rules}
use Rattle.std.specs.List.{dedup}
use Rattle.std.proofs.lemmas.Fn.{dedup_same}
use Rattle.std.proofs.lemmas.List.Sorted.{answers_always}
use Rattle.casa_flight.specs.Good.{AreInOrder}
use Rattle.casa_flight.specs.Listing.{sorted_by}
use Rattle.casa_list.specs.ByKey.{by_key, key_before}
use Rattle.casa_list.proofs.ByKey.{same_key, key_order, once_in_order, sorted-by_key}
use Rattle.casa_list.proofs.stances.Stances.of_members.Goals as goal

all_by_key : (c : goal.After-dedup_by) → c.dedup_by.new.self.items ≡ by_key c.args.members.items
all_by_key c =
    let sorted : c.put_in_order.new.items.items ≡ sorted_by key_before c.args.members.items =
    c.in_ok-put_in_order.ensures.order key_before key_order (answers_always _ _ _ (λ f a r g h. search rules)) in
    dedup_same _ same_key _ (λ x y b f' x' y' k. search rules) _ _ c.dedup_by.ensures.filtered
    ∙ ap (dedup same_key) sorted ∙ once_in_order c.args.members.items

pub invariant_of-result : goal.invariant_of-result
invariant_of-result c =
    let is : c.dedup_by.new.self.items ≡ by_key c.args.members.items = all_by_key c in
    subst AreInOrder (sym is) (sorted-by_key c.args.members.items)

pub returns : goal.returns
returns c = all_by_key c
