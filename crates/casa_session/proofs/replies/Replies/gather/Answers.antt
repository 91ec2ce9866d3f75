use Rattle.std.proofs.Common.{inl}
use Rattle.casa_session.proofs.Gathered.{replied_call}
use Rattle.casa_session.proofs.replies.Replies.gather.Goals as goal

pub returns-in-Ok-answer-clause-err : goal.returns-in-Ok-answer-clause-err
returns-in-Ok-answer-clause-err g c =
    (_, inl (replied_call _ _ _ c.in-Ok.call c.in-Ok-answer.receipt c.in-Ok.is c.in-Ok-answer.ensures.ok c.in-Ok-answer.ensures.called))
