use Rattle.casa_report.proofs.Values.{line_written}
use Rattle.casa_report.proofs.csv.push_values.Goals as goal

pub returns : goal.returns
returns c =
    rw c.in-Some.ensures.cases.0
    (line_written c.args.day c.in-Some.first.now c.in-Some.rest.now c.args.out.now.items c.push_value.new.out.items c.push_more.new.out.items c.push-2.new.self.items
    c.in_ok-push_value.ensures c.in_ok-push_more.ensures c.in_ok-push-2.ensures.items)
