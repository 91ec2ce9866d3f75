use Rattle.casa_app.proofs.Compared.{below}
use Rattle.casa_app.proofs.comparing.answered_below.Goals as goal

pub returns-clause-says : goal.returns-clause-says
returns-clause-says g c =
    below c.args.line.now c.args.strict _ c.answer_lines-answered.result _ _ _ _ c.new-said.result.items c.answer_lines-answered.new.errors.items _
    c.new-said.ensures.items c.answer_lines-answered.ensures.says c.deref.ensures.value c.say_of.ensures
