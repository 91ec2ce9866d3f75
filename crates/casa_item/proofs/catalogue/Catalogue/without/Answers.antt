use Rattle.std.proofs.Common.{◌≡◌, subst, sym, ◌∙◌, ap}
use Rattle.std.proofs.lemmas.Result.{IfOk-weaker}
use Rattle.casa_filing.specs.Text.{without}
use Rattle.casa_footprint.specs.Finding.{by_id}
use Rattle.casa_item.specs.Crossed.{others, AreListed}
use Rattle.casa_item.proofs.Listed.{without_is, without_listed}
use Rattle.casa_item.proofs.catalogue.Catalogue.without.Goals as goal

pub of-requires : goal.of-requires
of-requires c =
    let is = c.in_ok-regulations.ensures ∙ ap (others c.args.id.now) c.as_slice.ensures.regulations in
    subst AreListed (sym is) (without_listed c.args.id.now c.args.self.now c.as_slice.ensures.listed)

pub returns : goal.returns
returns c =
    let is = c.in_ok-regulations.ensures ∙ ap (others c.args.id.now) c.as_slice.ensures.regulations in
    let so = ap by_id is ∙ without_is c.args.id.now c.args.self.now c.as_slice.ensures.listed in
    IfOk-weaker c.of.result (λ rs. rs ≡ c.in_ok-regulations.regulations.items)
    (λ rs. by_id rs ≡ without (by_id c.args.self.now) c.args.id.now) (λ rs e. ap by_id e ∙ so) c.of.ensures
