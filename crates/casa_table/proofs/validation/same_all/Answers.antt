use Rattle.std.proofs.Common.{◌≡◌, true, refl}
use Rattle.std.specs.Option.{option_map}
use Rattle.casa_table.specs.Same.{same_version}
use Rattle.casa_table.proofs.Compared.{all-layers, by-values, by-names}
use Rattle.casa_table.proofs.validation.same_all.Goals as goal

pub returns-then-same_base-clause-same : goal.returns-then-same_base-clause-same
returns-then-same_base-clause-same g c = (
  λ t. all-layers (λ x y. same_version g.V.Version.is_same x y ≡ true)
      c.args.table.now.entries c.args.shared.now c.sides-sides.result.ours.now.entries c.sides-sides.result.theirs.now.entries
      c.sides-sides.result.our_changes.now.entries c.sides-sides.result.their_changes.now.entries c.sides-sides.ensures.ours c.sides-sides.ensures.theirs
      c.sides-sides.ensures.our_order c.sides-sides.ensures.their_order
      (c.if-not-same_under.ensures.same refl) (c.if-not-same_under-2.ensures.same refl)
      (by-values (λ x y. same_version g.V.Version.is_same x y ≡ true)
      c.args.table.now.entries c.args.shared.now c.sides-sides.result.ours.now.entries c.sides-sides.result.theirs.now.entries
      c.sides-sides.result.our_changes.now.entries c.sides-sides.result.their_changes.now.entries (c.if-same_base.ensures.same refl)),
  λ h. refl,
)

pub returns-then-same_base-clause-shows : goal.returns-then-same_base-clause-shows
returns-then-same_base-clause-shows g c =
    λ t. all-layers (λ x y. option_map g.V.Version.item_of x ≡ option_map g.V.Version.item_of y)
    c.args.table.now.entries c.args.shared.now c.sides-sides.result.ours.now.entries c.sides-sides.result.theirs.now.entries
    c.sides-sides.result.our_changes.now.entries c.sides-sides.result.their_changes.now.entries c.sides-sides.ensures.ours c.sides-sides.ensures.theirs
    c.sides-sides.ensures.our_order c.sides-sides.ensures.their_order
    (c.if-not-same_under.ensures.shows refl) (c.if-not-same_under-2.ensures.shows refl)
    (by-values (λ x y. option_map g.V.Version.item_of x ≡ option_map g.V.Version.item_of y)
    c.args.table.now.entries c.args.shared.now c.sides-sides.result.ours.now.entries c.sides-sides.result.theirs.now.entries
    c.sides-sides.result.our_changes.now.entries c.sides-sides.result.their_changes.now.entries (c.if-same_base.ensures.shows refl))

pub returns-then-same_under-clause-same : goal.returns-then-same_under-clause-same
returns-then-same_under-clause-same g c = (
  λ t. all-layers (λ x y. same_version g.V.Version.is_same x y ≡ true)
      c.args.table.now.entries c.args.shared.now c.sides-sides.result.ours.now.entries c.sides-sides.result.theirs.now.entries
      c.sides-sides.result.our_changes.now.entries c.sides-sides.result.their_changes.now.entries c.sides-sides.ensures.ours c.sides-sides.ensures.theirs
      c.sides-sides.ensures.our_order c.sides-sides.ensures.their_order
      (c.if-not-same_under.ensures.same refl) (c.if-not-same_under-2.ensures.same refl)
      (by-names (λ x y. same_version g.V.Version.is_same x y ≡ true)
      c.args.table.now.entries c.args.shared.now c.sides-sides.result.ours.now.entries c.sides-sides.result.theirs.now.entries
      c.sides-sides.result.our_changes.now.entries c.sides-sides.result.their_changes.now.entries refl (c.if-same_under.ensures.same refl)
      (c.same_under-then-same_under.ensures.same t)),
  c.same_under-then-same_under.ensures.every,
)

pub returns-then-same_under-clause-shows : goal.returns-then-same_under-clause-shows
returns-then-same_under-clause-shows g c =
    λ t. all-layers (λ x y. option_map g.V.Version.item_of x ≡ option_map g.V.Version.item_of y)
    c.args.table.now.entries c.args.shared.now c.sides-sides.result.ours.now.entries c.sides-sides.result.theirs.now.entries
    c.sides-sides.result.our_changes.now.entries c.sides-sides.result.their_changes.now.entries c.sides-sides.ensures.ours c.sides-sides.ensures.theirs
    c.sides-sides.ensures.our_order c.sides-sides.ensures.their_order
    (c.if-not-same_under.ensures.shows refl) (c.if-not-same_under-2.ensures.shows refl)
    (by-names (λ x y. option_map g.V.Version.item_of x ≡ option_map g.V.Version.item_of y)
    c.args.table.now.entries c.args.shared.now c.sides-sides.result.ours.now.entries c.sides-sides.result.theirs.now.entries
    c.sides-sides.result.our_changes.now.entries c.sides-sides.result.their_changes.now.entries refl (c.if-same_under.ensures.shows refl)
    (c.same_under-then-same_under.ensures.shows t))
