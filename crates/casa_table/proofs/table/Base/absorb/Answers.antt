use Rattle.std.proofs.Common.{rules, ◌≡◌, List, Option, Some, refl, sym, ap, ◌∙◌, subst}
use Rattle.std.specs.List.{AllByRecursion}
use Rattle.casa_filing.specs.Text.{Text, at_name}
use Rattle.casa_flight.specs.Good.{AreInOrder}
use Rattle.casa_filing.proofs.Entries.{each_found}
use Rattle.casa_table.specs.Laid.{with_changes}
use Rattle.casa_table.proofs.Layers.{made-before, sorted-with_value}
use Rattle.casa_table.proofs.table.Base.absorb.Goals as goal

pub loop-name-init : goal.loop-name-init
loop-name-init g c =
    let V = g.row.V.Denot in
    let changes : List (Text × Option V) = c.args.changes.now.entries in
    let order : AreInOrder changes = search rules in
    let same : c.into_iter-name-iterator.result ≡ changes = search rules in
    record {
      left = subst (λ (ws : List (Text × Option V)). AllByRecursion (λ (e : Text × Option V). at_name changes e.0 ≡ Some e.1) ws)
          (sym same) (each_found changes order);
      rest = ap (λ (ws : List (Text × Option V)). with_changes ws c.args.self.now) same;
      all = refl;
      ordered = λ h. h;
    }

pub loop-name-preserved : goal.loop-name-preserved
loop-name-preserved g c =
    let V = g.row.V.Denot in
    let changes : List (Text × Option V) = c.args.changes.now.entries in
    let order : AreInOrder changes = search rules in
    let before : List (Text × V) = c.loop-name.self in
    let written = c.in_ok-replaced.ensures.written in
    let left = subst (λ (ws : List (Text × Option V)). AllByRecursion (λ (e : Text × Option V). at_name changes e.0 ≡ Some e.1) ws)
    c.in-Some.ensures.steps c.loop-name.invariant.left in
    record {
      left = left.1;
      rest = ap (λ (es : List (Text × V)). with_changes c.next.new.self es) written
          ∙ sym (ap (λ (ws : List (Text × Option V)). with_changes ws before) c.in-Some.ensures.steps) ∙ c.loop-name.invariant.rest;
      all = ap (λ (es : List (Text × V)). with_changes changes es) written
          ∙ made-before c.in-Some.name.now c.in-Some.change.now changes before order c.in_ok-replaced.ensures.ordered left.0
          ∙ c.loop-name.invariant.all;
      ordered = λ h. subst (λ (es : List (Text × V)). AreInOrder es) (sym written)
          (sorted-with_value c.in-Some.name.now c.in-Some.change.now before (c.loop-name.invariant.ordered h));
    }

pub returns-in_err-keep_replaced-clause-same : goal.returns-in_err-keep_replaced-clause-same
returns-in_err-keep_replaced-clause-same g c =
    let V = g.row.V.Denot in
    let changes : List (Text × Option V) = c.args.changes.now.entries in
    let order : AreInOrder changes = search rules in
    let left = subst (λ (ws : List (Text × Option V)). AllByRecursion (λ (e : Text × Option V). at_name changes e.0 ≡ Some e.1) ws)
    c.in-Some.ensures.steps c.loop-name.invariant.left in
    ap (λ (es : List (Text × V)). with_changes changes es) c.in_ok-replaced.ensures.written
    ∙ made-before c.in-Some.name.now c.in-Some.change.now changes c.loop-name.self order c.in_ok-replaced.ensures.ordered left.0
    ∙ c.loop-name.invariant.all

pub returns-in_err-keep_replaced-clause-ordered : goal.returns-in_err-keep_replaced-clause-ordered
returns-in_err-keep_replaced-clause-ordered g c =
    λ h. subst (λ (es : List (Text × g.row.V.Denot)). AreInOrder es) (sym c.in_ok-replaced.ensures.written)
    (sorted-with_value c.in-Some.name.now c.in-Some.change.now c.loop-name.self (c.loop-name.invariant.ordered h))
