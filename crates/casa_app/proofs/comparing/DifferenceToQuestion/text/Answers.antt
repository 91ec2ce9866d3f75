use Rattle.std.proofs.Common.{◌∙◌, ap, sym, Ok}
use Rattle.casa_filing.specs.Text.{Text}
use Rattle.casa_app.specs.Compared.{compare_as}
use Rattle.casa_app.proofs.comparing.DifferenceToQuestion.text.Goals as goal

pub returns-clause-some : goal.returns-clause-some
returns-clause-some c =
    let asked = c.args.self.now.asked in
    sym (ap (λ (text : Text). Ok text) (c.in_ok-text.ensures ∙ ap (compare_as asked.format asked.day) c.in_ok-found.ensures))
