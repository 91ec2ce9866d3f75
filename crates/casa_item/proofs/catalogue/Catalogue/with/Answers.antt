use Rattle.std.proofs.Common.{◌≡◌, subst, sym, ◌∙◌, ap}
use Rattle.std.proofs.lemmas.Result.{IfOk-weaker}
use Rattle.casa_filing.specs.Text.{put}
use Rattle.casa_footprint.specs.Finding.{by_id}
use Rattle.casa_item.specs.Crossed.{AreListed}
use Rattle.casa_item.proofs.Listed.{listed_with, with_is, with_listed}
use Rattle.casa_item.proofs.catalogue.Catalogue.with.Goals as goal

pub of-requires : goal.of-requires
of-requires c =
    let is = c.in_ok-regulations.ensures ∙ ap (listed_with c.args.regulation) c.as_slice.ensures.regulations in
    subst AreListed (sym is) (with_listed c.args.regulation c.args.self.now c.as_slice.ensures.listed)

pub returns : goal.returns
returns c =
    let is = c.in_ok-regulations.ensures ∙ ap (listed_with c.args.regulation) c.as_slice.ensures.regulations in
    let so = ap by_id is ∙ with_is c.args.regulation c.args.self.now c.as_slice.ensures.listed in
    IfOk-weaker c.of.result (λ rs. rs ≡ c.in_ok-regulations.regulations.items)
    (λ rs. by_id rs ≡ put (by_id c.args.self.now) c.args.regulation.id c.args.regulation)
    (λ rs e. ap by_id e ∙ so) c.of.ensures
