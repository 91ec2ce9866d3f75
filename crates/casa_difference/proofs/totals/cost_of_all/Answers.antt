use Rattle.std.proofs.Common.{◌≡◌, ◌∙◌, List, length, take, Some, refl, sym, ap, subst}
use Rattle.std.specs.Prelude.{slice_get}
use Rattle.std.proofs.lemmas.Option.{slice_get_read}
use Rattle.casa_filing.specs.declared.regulation.Regulation.{Regulation}
use Rattle.casa_flight.specs.Listing.{list_of}
use Rattle.casa_flight.specs.Replies.{list_reply}
use Rattle.casa_flight.specs.State.{catalogue}
use Rattle.casa_inquiry.specs.Summary.{cost_of_all, lists_told}
use Rattle.casa_difference.specs.Totals.{together}
use Rattle.casa_difference.proofs.Together.{cost-next, lists-next}
use Rattle.casa_difference.proofs.totals.cost_of_all.Goals as goal

pub loop-regulation-preserved : goal.loop-regulation-preserved
loop-regulation-preserved g c = λ m good shown.
    let i = c.loop-regulation.regulation-index in
    let r = c.regulation-item.result in
    let all : List Regulation = c.catalogue-regulation-items.result.now in
    let there : slice_get all i ≡ Some r = slice_get_read all (length all) i r refl c.loop-regulation-test.true c.regulation-item.is in
    let own : slice_get (catalogue m) i ≡ Some r =
    subst (λ (rs : List Regulation). slice_get rs i ≡ Some r) (c.catalogue-regulation-items.ensures m shown) there in
    let list = c.in_ok-list.list.now in
    let found : list_of m r.id ≡ Some list = sym (c.in_ok-list.ensures m shown) in
    c.in_ok-cost.ensures
    ∙ (λ j. together (c.loop-regulation.invariant m good shown j) (c.of_list.ensures m r j))
    ∙ sym (cost-next (take i (lists_told m)) (list_reply m r list))
    ∙ ap cost_of_all (sym (lists-next m good i r list own found))
