use Rattle.std.proofs.Common.{sym, subst}
use Rattle.std.proofs.lemmas.Result.{on_ok_weaker}
use Rattle.casa_plan_spec.specs.Sight.{says}
use Rattle.casa_item.specs.Versions.{IsInOrder, list_at}
use Rattle.casa_view.specs.Board.{versions, next_versions}
use Rattle.casa_view.specs.Change.{IsApplied}
use Rattle.casa_view.proofs.Turned.{ready_turned}
use Rattle.casa_view.proofs.staging.fit.Goals as goal

pub returns-clause-room : goal.returns-clause-room
returns-clause-room g c =
    let version = g.K.Version.Version in
    let mid = c.fit_others.new.items in
    let order : IsInOrder (versions mid) = subst (λ vs. IsInOrder vs) (sym c.fit_others.ensures.same) c.requires in
    on_ok_weaker c.fit_lists.result
    (λ lists. subst (λ es. IsApplied version.item_of version.stamp_of (says (list_at version.item_of (record (versions mid) { lists = es })) c.args.change.now) c.args.position
    (record (versions mid) { lists = es }) (record (next_versions mid) { lists = c.fit_lists.new.lists.next }))
    (sym c.fit_lists.ensures.same)
    (ready_turned version.item_of version.stamp_of c.args.position c.args.change.now mid c.fit_lists.new.lists.next order lists.0 c.in_ok-fit_others.ensures.ready lists.1))
    c.fit_lists.ensures.ready
