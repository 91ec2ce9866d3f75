use Rattle.std.proofs.Common.{◌∙◌, ap, sym, rules, FitsSigned, w64}
use Rattle.std.proofs.lemmas.Int.{to_z-of_z}
use Rattle.casa_import.specs.Times.{moment_on, moment_or}
use Rattle.casa_import.proofs.times.moment_on.Goals as goal

pub returns-in-Some : goal.returns-in-Some
unfolding moment_on
returns-in-Some c =
    let fits : FitsSigned w64 c.in-Some.seconds = search rules in
    simp to_z-of_z at c.moment_at.ensures ∙ ap moment_or (sym c.in-Some.is ∙ c.seconds_on.ensures)
