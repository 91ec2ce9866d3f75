use Rattle.std.proofs.Common.{◌<◌, ◌≤◌, length, take, slice_index_or, subst, arith}
use Rattle.std.proofs.lemmas.List.{take_all}
use Rattle.std.proofs.lemmas.List.Elements.{All-more}
use mathlib.Core.List.{IsPrefix}
use Rattle.casa_engine.specs.Fronts.{AllBegin}
use Rattle.casa_engine.proofs.Seeing.{all_begin_more}
use Rattle.casa_engine.proofs.shared.SharedRoom.history_of.Goals as goal

pub loop-k-preserved : goal.loop-k-preserved
loop-k-preserved g c =
    let fronts = c.args.fronts.now.items in
    let all = c.joined-all.result in
    let test = c.loop-k-test.true in
    let len = c.len-k-end.ensures in
    let within : c.loop-k.k < length fronts = omega arith in
    let had : AllBegin (take c.loop-k.k fronts) all = all_begin_more (take c.loop-k.k fronts) c.loop-k.all all c.loop-k.invariant c.joined-all.ensures.this in
    let here : IsPrefix (slice_index_or fronts c.loop-k.k c.index.result.now) all = subst (λ f. IsPrefix f all) c.index.ensures c.joined-all.ensures.that in
    All-more (λ f. IsPrefix f all) fronts c.loop-k.k c.index.result.now within had here

pub returns-clause-all : goal.returns-clause-all
returns-clause-all g c =
    let fronts = c.args.fronts.now.items in
    let test = c.loop-k-test.false in
    let len = c.len-k-end.ensures in
    let past : length fronts ≤ c.loop-k.k = omega arith in
    let had : AllBegin fronts c.loop-k.all = subst (λ fs. AllBegin fs c.loop-k.all) (take_all c.loop-k.k fronts past) c.loop-k.invariant in
    all_begin_more fronts c.loop-k.all c.see.new.front had c.see.ensures.longer
