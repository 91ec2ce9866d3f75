use Rattle.std.proofs.Common.{sym}
use Rattle.casa_footprint.specs.Items.{a_row, a_list}
use Rattle.casa_view.proofs.Held.{refused, clock_held, catalogue_held, all_held}
use Rattle.casa_view.proofs.current.same_items.Goals as goal

pub returns-then-not-same_held-clause-current : goal.returns-then-not-same_held-clause-current
returns-then-not-same_held-clause-current g c =
    refused _ (sym c.if-not-same_held.ensures.same) (clock_held g.V.Version.is_same c.args.items.now c.args.view.now)

pub returns-then-not-same_catalogue-clause-current : goal.returns-then-not-same_catalogue-clause-current
returns-then-not-same_catalogue-clause-current g c =
    refused _ (sym c.if-not-same_catalogue.ensures.same)
    (catalogue_held g.V.Version.is_same c.args.items.now c.args.view.now)

pub returns-then-not-same_part-clause-current : goal.returns-then-not-same_part-clause-current
returns-then-not-same_part-clause-current g c =
    refused _ c.if-not-same_part.true (λ current. c.same_part.ensures.same.1 (λ q. current (a_list q)))

pub returns-clause-current : goal.returns-clause-current
returns-clause-current g c = (
  λ rows. all_held g.V.Version.is_same c.args.items.now c.args.view.now (sym c.if-not-same_held.ensures.same)
      (sym c.if-not-same_catalogue.ensures.same) (c.same_part-2.ensures.same.0 rows)
      (c.same_part.ensures.same.0 c.if-not-same_part.false),
  λ current. c.same_part-2.ensures.same.1 (λ q. current (a_row q)),
)
