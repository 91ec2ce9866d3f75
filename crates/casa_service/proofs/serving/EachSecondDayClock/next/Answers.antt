use Rattle.std.proofs.lemmas.Option.{IfSome_then}
use Rattle.casa_service.proofs.serving.EachSecondDayClock.next.Goals as goal

pub returns-clause-told : goal.returns-clause-told
returns-clause-told g c =
    IfSome_then c.moment_at.result c.moment_at.ensures.some (λ at second. (c.in_ok-now.now, second))
