use Rattle.casa_server.specs.Serving.{ended}
use Rattle.casa_server.proofs.Serving.{ended_in_more}
use Rattle.casa_server.proofs.begun.Begun.end.Goals as goal

pub returns : goal.returns
returns g c = record {
  longer = c.joined.ensures.this;
  ended = (
    ended c.join-ended.result.0,
    rw c.in-Session.is (ended_in_more _ _ _ _ _ _ _ (ended c.join-ended.result.0) c.joined.ensures.that c.join-ended.ensures),
    c.is_err.ensures.value,
  );
}
