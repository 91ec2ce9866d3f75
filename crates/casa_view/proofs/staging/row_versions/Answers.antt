use Rattle.std.proofs.Common.{rules, ◌≡◌, ◌∷◌, ◌++◌, map, sym, ap, ◌∙◌, subst}
use Rattle.std.specs.Map.Iter.{deref_pair}
use Rattle.std.proofs.lemmas.Map.Iter.{iter_end, rest_so_far, rest_more}
use Rattle.casa_flight.specs.Good.{AreInOrder}
use Rattle.casa_view.proofs.Pushed.{alike_next, map-last}
use Rattle.casa_view.proofs.staging.row_versions.Goals as goal

pub loop-key-preserved : goal.loop-key-preserved
loop-key-preserved g c =
    let version = g.K.Version.Version in
    let xs = c.loop-key.yielded in
    let done = map deref_pair xs in
    let name = c.in-Some.key.now in
    let item = c.in-Some.row.now in
    let rest = c.next.new.self in
    let here : c.loop-key.key-iterator ≡ (name, item) ∷ rest =
    rest_more deref_pair _ _ _ (c.in-Some.key, c.in-Some.row) c.in-Some.is c.next.ensures.steps in
    let so_far : c.into_iter-key-iterator.result ≡ done ++ c.loop-key.key-iterator =
    rest_so_far deref_pair xs _ _ c.loop-key.yielded_by in
    let start : c.into_iter-key-iterator.result ≡ c.args.rows.now = search rules in
    let all : c.args.rows.now ≡ done ++ (name, item) ∷ rest =
    sym start ∙ so_far ∙ ap (λ es. done ++ es) here in
    let sorted : AreInOrder (done ++ (name, item) ∷ rest) =
    subst (λ es. AreInOrder es) all c.iter-key-items.ensures.ordered in
    let more = alike_next _ done c.loop-key.versions.entries name item c.in_ok-version.version rest sorted
    c.in_ok-version.ensures c.loop-key.invariant.3 in (
      tt,
      tt,
      c.in_ok-put_version.ensures.ordered,
      rw (map-last deref_pair xs (c.in-Some.key, c.in-Some.row), c.in_ok-put_version.ensures.put) more,
    )

pub returns-clause-versions : goal.returns-clause-versions
returns-clause-versions g c =
    let start : c.into_iter-key-iterator.result ≡ c.args.rows.now = search rules in
    let all = (iter_end deref_pair _ c.loop-key.yielded _ _ _ _ start c.loop-key.yielded_by c.in-None.is c.next.ensures.steps).0 in
    rw (← all) c.loop-key.invariant.3
