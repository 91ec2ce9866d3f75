use Rattle.casa_wire.proofs.Behind.{writes_as}
use Rattle.casa_lines.specs.Lines.{crossing_data, period_data}
use Rattle.casa_lines.proofs.Joined.{list_text}
use Rattle.casa_lines.proofs.object.push_value.Goals as goal

pub returns-in-Crossings : goal.returns-in-Crossings
returns-in-Crossings c =
    rw c.in-Crossings.is
    (writes_as c.push_between.result c.args.out.now.items c.push_between.new.out.items _ _ (list_text crossing_data c.in-Crossings.via.now) c.push_between.ensures)

pub returns-in-Periods : goal.returns-in-Periods
returns-in-Periods c =
    rw c.in-Periods.is
    (writes_as c.push_between-in-Periods.result c.args.out.now.items c.push_between-in-Periods.new.out.items _ _ (list_text period_data c.in-Periods.periods.now)
    c.push_between-in-Periods.ensures)
