use Rattle.std.proofs.Common.{rules, ◌≡◌, ◌∷◌, ◌++◌, map, sym, ap, ◌∙◌, subst, Option}
use Rattle.casa_filing.specs.Text.{Text}
use Rattle.casa_flight.specs.Listing.{Listing}
use Rattle.std.specs.Map.Iter.{deref_pair}
use Rattle.std.proofs.lemmas.Map.Iter.{iter_end, rest_so_far, rest_more}
use Rattle.casa_flight.specs.Good.{AreInOrder}
use Rattle.casa_view.specs.Next.{list_among}
use Rattle.casa_view.proofs.Pushed.{map-last}
use Rattle.casa_view.proofs.Stood.{stood_next}
use Rattle.casa_view.proofs.staging.with_stood.Goals as goal

pub loop-id-preserved : goal.loop-id-preserved
loop-id-preserved g c =
    let version = g.K.Version.Version in
    let xs = c.loop-id.yielded in
    let done = map deref_pair xs in
    let name = c.in-Some.id.now in
    let item = c.in-Some.stand.now in
    let rest = c.next.new.self in
    let here : c.loop-id.id-iterator ≡ (name, item) ∷ rest =
    rest_more deref_pair _ _ _ (c.in-Some.id, c.in-Some.stand) c.in-Some.is c.next.ensures.steps in
    let so_far : c.into_iter-id-iterator.result ≡ done ++ c.loop-id.id-iterator =
    rest_so_far deref_pair xs _ _ c.loop-id.yielded_by in
    let start : c.into_iter-id-iterator.result ≡ c.args.stands.now = search rules in
    let all : c.args.stands.now ≡ done ++ (name, item) ∷ rest =
    sym start ∙ so_far ∙ ap (λ es. done ++ es) here in
    let sorted : AreInOrder (done ++ (name, item) ∷ rest) =
    subst (λ es. AreInOrder es) all c.iter-id-items.ensures.ordered in
    let there : Text → Option Listing = list_among version.item_of c.args.table.now.entries in (
      tt,
      tt,
      λ h. c.in_ok-put_version.ensures.ordered,
      rw (map-last deref_pair xs (c.in-Some.id, c.in-Some.stand), c.in_ok-put_version.ensures.put)
          (stood_next version.item_of version.stamp_of c.args.position there
          done _ c.loop-id.all.entries name item c.in_ok-version.version rest sorted c.in_ok-version.ensures c.loop-id.invariant.3),
    )

pub returns-clause-versions : goal.returns-clause-versions
returns-clause-versions g c =
    let start : c.into_iter-id-iterator.result ≡ c.args.stands.now = search rules in
    let all = (iter_end deref_pair _ c.loop-id.yielded _ _ _ _ start c.loop-id.yielded_by c.in-None.is c.next.ensures.steps).0 in
    rw (← all) c.loop-id.invariant.3
