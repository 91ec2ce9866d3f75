use Rattle.std.proofs.Common.{take}
use Rattle.casa_session.specs.Replies.{AnswersAll}
use Rattle.casa_session.proofs.replies.Replies.answer_all.Given as goal

-- the first of the lines were answered
abbrev pub invariant-loop-meaning : goal.invariant-loop-meaning
invariant-loop-meaning g l =
    AnswersAll (take l.meaning-index l.asked) (g.D.Desk.answered l.fn.desk) (g.D.Desk.answered l.desk) l.fn.self l.self
    (g.W.Write.contents l.fn.writer) (g.W.Write.contents l.writer)
