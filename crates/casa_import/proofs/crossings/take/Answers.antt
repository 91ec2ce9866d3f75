use Rattle.std.proofs.Common.{sym, ◌∙◌, subst}
use Rattle.casa_import.specs.Keyed.{has_key}
use Rattle.casa_import.specs.Taking.{Takes}
use Rattle.casa_import.proofs.crossings.take.Goals as goal

pub returns-in_ok-take_crossing-in-Ok : goal.returns-in_ok-take_crossing-in-Ok
returns-in_ok-take_crossing-in-Ok c =
    subst (λ said. Takes (has_key c.args.named.now) c.args.row.now said c.args.read.now c.take_crossing.new.read)
    (sym c.in-Ok.is ∙ c.crossing_of.ensures) (c.in_ok-take_crossing-in-Ok.ensures c.args.row.now)
