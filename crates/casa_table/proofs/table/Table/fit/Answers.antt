use Rattle.std.proofs.Common.{ap, ◌∙◌}
use Rattle.std.proofs.lemmas.Result.{on_ok_weaker}
use Rattle.std.specs.Arc.{arc_value}
use Rattle.std.specs.Option.{option_or}
use Rattle.casa_filing.specs.Text.{at_name}
use Rattle.casa_table.specs.Laid.{with_changes}
use Rattle.casa_table.proofs.Layers.{laid-over}
use Rattle.casa_table.proofs.table.Table.fit.Goals as goal

pub returns-clause-next : goal.returns-clause-next
returns-clause-next g c =
    let base = arc_value c.self.inside.base in
    on_ok_weaker c.put_shared.result
    (λ put. ap (λ ws. with_changes ws.entries base) put
    ∙ laid-over c.args.changes.entries (arc_value c.self.inside.recent).entries c.keep_others.new.changes.entries base
    c.keep_others.ensures.were_ordered c.self.invariant.1 c.keep_others.ensures.ordered c.self.invariant.0
    (λ q. c.in_ok-keep_others.ensures.kept q
    ∙ ap (λ ws. option_or (at_name c.args.changes.entries q) (at_name ws.entries q)) c.deref-2.ensures))
    c.put_shared.ensures.put
