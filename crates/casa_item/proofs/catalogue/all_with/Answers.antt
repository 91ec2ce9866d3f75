use Rattle.std.proofs.Common.{List, ◌++◌, sym, ap, ◌∙◌}
use Rattle.std.proofs.lemmas.List.{append-nil, drop_all}
use Rattle.casa_filing.specs.declared.regulation.Regulation.{Regulation}
use Rattle.casa_item.specs.Crossed.{after}
use Rattle.casa_item.proofs.catalogue.all_with.Goals as goal

pub returns : goal.returns
returns c =
    let none = drop_all c.loop-later.later-index c.args.regulations.now c.loop-later-test.false in
    sym (append-nil c.loop-later.all.items)
    ∙ ap (λ (rs : List Regulation). c.loop-later.all.items ++ after c.args.regulation.id rs) (sym none)
    ∙ c.loop-later.invariant
