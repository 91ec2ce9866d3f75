use Rattle.std.proofs.Common.{ap, subst}
use Rattle.std.proofs.Math.Path.{fun_ext}
use Rattle.casa_import.specs.Filings.{Outcome}
use Rattle.casa_traffic.specs.Making.{AreRead, IsInOrder}
use Rattle.casa_traffic.proofs.making.make.Goals as goal

pub returns : goal.returns
returns c =
    let sheets = c.args.sheets.now in
    let columns = c.args.columns.now in
    record {
      options = c.in_ok-options.ensures;
      openings = c.in_ok-regulations.ensures.openings;
      not_opened = c.in_ok-regulations.ensures.left_out;
      crossings = subst (λ named. AreRead c.args.asked.now.day named sheets.crossings columns.crossings c.in_ok-crossings.crossings)
          (fun_ext c.in_ok-keys.ensures) c.in_ok-crossings.ensures;
      plans = subst (λ (o : Outcome). IsInOrder c.args.asked.now.order o.plans c.put_in_order.new.plans.items)
          c.in_ok-filings.ensures c.in_ok-put_in_order.ensures;
      not_filed = ap (λ (o : Outcome). o.left_out) c.in_ok-filings.ensures;
    }
