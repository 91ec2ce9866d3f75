use Rattle.std.proofs.Common.{◌∙◌, All, subst, slice_index_or}
use Rattle.std.proofs.lemmas.List.{take_all}
use Rattle.std.proofs.lemmas.List.Elements.{All-map, All-more}
use mathlib.Core.List.{IsPrefix}
use Rattle.casa_engine.specs.Fronts.{front_of}
use Rattle.casa_engine.proofs.counted.know_all.Goals as goal

pub loop-desk-preserved : goal.loop-desk-preserved
loop-desk-preserved g c =
    let passes = c.args.passes.now in
    let all = c.args.keeper.now in
    let had = c.loop-desk.invariant in
    let desk = c.desk-item.result in
    let known : IsPrefix (front_of desk) all = subst (IsPrefix (front_of desk)) had.same c.knows.ensures.known in
    let here : IsPrefix (front_of (slice_index_or passes c.loop-desk.desk-index desk)) all =
    subst (λ d. IsPrefix (front_of d) all) c.desk-item.is known in
    record {
      same = c.knows.ensures.same ∙ had.same;
      known = All-more (λ d. IsPrefix (front_of d) all) passes c.loop-desk.desk-index desk c.loop-desk-test.true had.known here;
    }

pub returns-clause-known : goal.returns-clause-known
returns-clause-known g c =
    let passes = c.args.passes.now in
    let all = c.args.keeper.now in
    All-map (λ front. IsPrefix front all) front_of passes
    (subst (All (λ desk. IsPrefix (front_of desk) all)) (take_all c.loop-desk.desk-index passes c.loop-desk-test.false) c.loop-desk.invariant.known)
