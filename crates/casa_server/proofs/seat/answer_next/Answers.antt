use Rattle.casa_server.proofs.seat.answer_next.Goals as goal

pub returns-clause-answered : goal.returns-clause-answered
returns-clause-answered g c = (
  (c.in-Ok.ends, c.session-ended.result.0),
  c.in-Ok.ensures.given,
  record { after = (c.session-ended.new.reader, c.session-ended.new.writer); ends = c.session-ended.ensures },
  c.is_err-is_faulted.ensures.value,
)
