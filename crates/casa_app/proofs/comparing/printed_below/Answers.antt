use Rattle.casa_app.proofs.Compared.{below}
use Rattle.casa_app.proofs.comparing.printed_below.Goals as goal

pub returns-clause-says : goal.returns-clause-says
returns-clause-says g c =
    below c.args.line.now c.args.strict _ c.print-printed.result _ _ _ _ c.new-said.result.items c.print-printed.new.errors.items _
    c.new-said.ensures.items c.print-printed.ensures.says c.deref.ensures.value c.say_of.ensures
