use Rattle.casa_live.proofs.Sessions.{if_ok, on_err}
use Rattle.casa_live.proofs.answering.answer_lines.Goals as goal

pub returns-clause-ok : goal.returns-clause-ok
returns-clause-ok g c = if_ok c.answer_in.result.0 (λ text told. told c.legal_histories_are_sequential.ensures) c.answer_in.ensures.ok

pub returns-clause-err : goal.returns-clause-err
returns-clause-err g c = on_err c.answer_in.result.0 (λ told. told c.legal_histories_are_sequential.ensures) c.answer_in.ensures.err
