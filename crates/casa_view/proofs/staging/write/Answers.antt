use Rattle.std.proofs.Common.{sym, subst}
use Rattle.casa_filing.specs.Text.{Text, at_name}
use Rattle.casa_plan_spec.specs.Sight.{says}
use Rattle.casa_item.specs.Versions.{IsInOrder, list_at}
use Rattle.casa_view.specs.Board.{versions}
use Rattle.casa_view.specs.Change.{IsApplied}
use Rattle.casa_view.specs.Next.{TurnsTo, listed, list_among}
use Rattle.casa_view.proofs.Turned.{ready_turned}
use Rattle.casa_view.proofs.Stood.{when_done, unless_done}
use Rattle.casa_view.proofs.staging.write.Goals as goal

pub returns-then-branch-clause-written : goal.returns-then-branch-clause-written
returns-then-branch-clause-written g c =
    let version = g.K.Version.Version in
    let n = c.args.position in
    let written = c.args.change.now in
    let mid = c.fit_others.new.items in
    let order : IsInOrder (versions mid) = subst (λ vs. IsInOrder vs) (sym c.fit_others.ensures.same) c.requires in
    let turns = when_done _ _ c.in_ok-stand_in_place.field-0 c.if-branch.true c.in_ok-stand_in_place.ensures.stood in
    let lists = c.stand_in_place.new.lists.entries in
    subst (λ vs. IsApplied version.item_of version.stamp_of (says (list_at version.item_of vs) written) n vs (versions c.adopt_others.new.self))
    c.fit_others.ensures.same
    (subst (λ after. IsApplied version.item_of version.stamp_of (says (list_at version.item_of (versions mid)) written) n (versions mid) after)
    (sym c.adopt_others.ensures.others)
    (ready_turned version.item_of version.stamp_of n written mid lists order (c.stand_in_place.ensures.ordered order.lists) c.in_ok-fit_others.ensures.ready turns))

pub returns-clause-written : goal.returns-clause-written
returns-clause-written g c =
    let version = g.K.Version.Version in
    let n = c.args.position in
    let written = c.args.change.now in
    let mid = c.fit_others.new.items in
    let order : IsInOrder (versions mid) = subst (λ vs. IsInOrder vs) (sym c.fit_others.ensures.same) c.requires in
    let kept = unless_done _ _ c.in_ok-stand_in_place.field-0 c.if-branch.false c.in_ok-stand_in_place.ensures.stood in
    let lists = c.fit_lists.new.lists.next in
    let ready = c.in_ok-fit_lists.ensures.ready in
    let turns = λ (q : Text).
    subst (λ es. TurnsTo version.item_of version.stamp_of n (listed (list_among version.item_of es) written q) (at_name es q) (at_name lists q)) kept (ready.1 q) in
    subst (λ vs. IsApplied version.item_of version.stamp_of (says (list_at version.item_of vs) written) n vs (versions c.adopt.new.self))
    c.fit_others.ensures.same
    (subst (λ after. IsApplied version.item_of version.stamp_of (says (list_at version.item_of (versions mid)) written) n (versions mid) after)
    (sym c.adopt.ensures)
    (ready_turned version.item_of version.stamp_of n written mid lists order ready.0 c.in_ok-fit_others.ensures.ready turns))
