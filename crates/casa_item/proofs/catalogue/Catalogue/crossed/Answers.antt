use Rattle.std.proofs.Common.{sym, subst, ap, ◌∙◌}
use Rattle.casa_flight.specs.Good.{AreInOrder}
use Rattle.casa_footprint.specs.Finding.{crossed}
use Rattle.casa_item.specs.Crossed.{at_place}
use Rattle.casa_item.proofs.Crossed.{sorted_crossed, sorted-crossed}
use Rattle.casa_item.proofs.catalogue.Catalogue.crossed.Goals as goal

pub of-requires : goal.of-requires
of-requires c =
    let all = c.self.inside.regulations.items in
    let place = at_place (λ v. v.items) c.self.inside.places.entries in
    let found = c.in_ok-found.ensures in
    subst AreInOrder (sym (sorted_crossed c.args.plan.now all place c.self.invariant found.apart _ _ found.covering c.sort.ensures))
    (sorted-crossed c.args.plan.now all c.self.invariant.listed)

pub returns : goal.returns
returns c =
    let all = c.self.inside.regulations.items in
    let place = at_place (λ v. v.items) c.self.inside.places.entries in
    let found = c.in_ok-found.ensures in
    c.of.ensures
    ∙ sorted_crossed c.args.plan.now all place c.self.invariant found.apart _ _ found.covering c.sort.ensures
    ∙ ap (crossed c.args.plan.now) c.self.view_is
