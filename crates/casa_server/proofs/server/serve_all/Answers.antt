use Rattle.std.proofs.Common.{map, sym, ◌∙◌}
use Rattle.std.proofs.lemmas.List.{length-map}
use Rattle.casa_server.specs.Begun.{connection_of}
use Rattle.casa_server.proofs.Serving.{have_ended_in_more}
use Rattle.casa_server.proofs.server.serve_all.Goals as goal

pub returns-clause-served : goal.returns-clause-served
returns-clause-served g c =
    let begun = c.in-Ok.begun.items in
    record {
      legal = c.see.ensures.legal;
      connections = map connection_of begun;
      sessions = sym (length-map begun connection_of ∙ c.in-Ok.ensures.number);
      first = c.in-Ok.ensures.first;
      ended = have_ended_in_more _ _ _ _ _ _ _ _ c.see.ensures.longer c.end_all-faulted.ensures;
    }
