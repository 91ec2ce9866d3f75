use Rattle.std.proofs.Common.{◌≡◌, true, refl, sym, ap, ◌∙◌}
use Rattle.std.specs.Option.{option_map}
use Rattle.casa_filing.specs.Text.{Text, at_name}
use Rattle.casa_table.specs.Same.{same_version}
use Rattle.casa_table.proofs.Compared.{each-earlier, no-later, first-found, later-in-order, later-found}
use Rattle.casa_table.proofs.validation.same_named.Goals as goal

pub returns-then-not-same_version-clause-same : goal.returns-then-not-same_version-clause-same
returns-then-not-same_version-clause-same g c =
    let name = c.in-Some.name.now in
    let version = c.in-Some.version.now in
    let first = first-found c.loop-name.name-iterator c.next.new.self name version c.in-Some.ensures.steps in
    let there = c.loop-name.invariant.3 name version first in (
      λ f q w e. cc,
      λ h. c.if-not-same_version.ensures.same
          ∙ (λ i. same_version g.V.Version.is_same (c.get.ensures.value i) (c.as_ref.ensures.value i))
          ∙ h name version there,
    )

pub loop-name-preserved : goal.loop-name-preserved
loop-name-preserved g c =
    let table = c.args.table.now.entries in
    let es = c.loop-name.name-iterator in
    let rest = c.next.new.self in
    let name = c.in-Some.name.now in
    let version = c.in-Some.version.now in
    let steps = c.in-Some.ensures.steps in
    let same =
    sym (λ i. same_version g.V.Version.is_same (c.get.ensures.value i) (c.as_ref.ensures.value i))
    ∙ sym c.if-not-same_version.ensures.same in
    let shown =
    sym (ap (option_map g.V.Version.item_of) c.get.ensures.value) ∙ c.if-not-same_version.ensures.shows refl
    ∙ ap (option_map g.V.Version.item_of) c.as_ref.ensures.value in (
      tt,
      tt,
      later-in-order es rest name version steps c.loop-name.invariant.2,
      λ q w found. c.loop-name.invariant.3 q w
          (later-found es rest name version steps c.loop-name.invariant.2 q w found),
      λ q later. c.loop-name.invariant.4 q
          (each-earlier (λ (p : Text) w. (same_version g.V.Version.is_same (at_name table p) w ≡ true)
          × (option_map g.V.Version.item_of (at_name table p) ≡ option_map g.V.Version.item_of w))
          es rest name version steps (same, shown) q later),
    )

pub returns-clause-shows : goal.returns-clause-shows
returns-clause-shows g c =
    λ t q w e.
    (c.loop-name.invariant.4 q (λ v f. no-later c.loop-name.name-iterator q v c.in-None.ensures.steps.0 f) w e).1
