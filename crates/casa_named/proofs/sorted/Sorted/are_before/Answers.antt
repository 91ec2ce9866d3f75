use Rattle.std.proofs.Common.{◌≡◌, ◌∙◌, length, ap, sym}
use Rattle.casa_flight.specs.Good.{AreInOrder}
use Rattle.casa_list.specs.Standings.{count_before}
use Rattle.casa_named.proofs.Counted.{all_before}
use Rattle.casa_named.proofs.sorted.Sorted.are_before.Goals as goal

pub returns-in-Some : goal.returns-in-Some
returns-in-Some g c h =
    let k = c.args.name.now in
    let es = c.deref.result.now in
    let same : es ≡ c.args.self.now = c.deref.ensures.value ∙ c.self.view_is in
    let sorted : AreInOrder es = rw c.deref.ensures.value c.self.invariant in
    ap length (sym same)
    ∙ all_before k es c.in-Some.last.now sorted (sym c.in-Some.ensures.value) (sym c.is_before.ensures ∙ h)
    ∙ ap (λ fs. count_before fs k) same
