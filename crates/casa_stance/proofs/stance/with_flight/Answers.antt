use Rattle.std.proofs.Common.{◌≡◌, ◌∙◌, sym, subst}
use Rattle.casa_flight.specs.Good.{AreInOrder}
use Rattle.casa_flight.specs.Listing.{Listing, stance_of}
use Rattle.casa_stance.proofs.Standing.{with_same}
use Rattle.casa_stance.proofs.stance.with_flight.Goals as goal

pub returns-then-is_stance : goal.returns-then-is_stance
returns-then-is_stance c =
    let l : Listing = c.args.shared in
    let sorted : AreInOrder l.flights = subst (λ (k : Listing). AreInOrder k.flights) c.list.ensures c.stance_of-was.ensures.keys in
    let stands : stance_of l c.args.key ≡ c.args.stance =
    subst (λ (k : Listing). stance_of k c.args.key ≡ c.args.stance) c.list.ensures (sym c.stance_of-was.ensures.stance ∙ c.is_stance.ensures c.if-is_stance.true) in
    sym (with_same l c.args.key c.args.stance sorted stands)
