use Rattle.std.proofs.Common.{List, is_some, sym, ap, ◌∙◌, ℕ}
use Rattle.std.proofs.lemmas.Result.{IfOk-weaker}
use Rattle.casa_filing.specs.Text.{Text, at_name}
use Rattle.casa_item.specs.declared.item.Item.{Item}
use Rattle.casa_item.specs.Crossed.{meets}
use Rattle.casa_item.specs.Versions.{regulations_of}
use Rattle.casa_item.proofs.Listed.{crossed_meets}
use Rattle.casa_view.proofs.catalogue_seen.crossed.Goals as goal

pub returns-in-Catalogue-clause-met : goal.returns-in-Catalogue-clause-met
returns-in-Catalogue-clause-met c =
    let plan = c.args.plan.now in
    IfOk-weaker c.crossed.result _ _
    (λ found are id.
    ap (λ (es : List (Text × ℕ)). is_some (at_name es id)) are ∙ crossed_meets plan c.in-Catalogue.catalogue id
    ∙ ap (λ (item : Item). meets (regulations_of item) plan id) (sym c.in-Catalogue.is))
    c.crossed.ensures
