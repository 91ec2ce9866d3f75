use Rattle.std.proofs.Common.{rules, arith, ◌≡◌, ◌∷◌, [], ◌++◌, length, length-append, refl}
use Rattle.std.proofs.lemmas.List.{map-append}
use Rattle.casa_server.specs.Begun.{connection_of}
use Rattle.casa_server.proofs.Serving.{gives_none, gives_more, gives_first}
use Rattle.casa_server.proofs.server.begin_all.Goals as goal

pub accepting-init : goal.accepting-init
accepting-init g c = rw c.new-all.ensures.items (refl, gives_none _)

pub accepting-preserved : goal.accepting-preserved
accepting-preserved g c =
    let seen = c.accepting.invariant in
    let begun = c.in_ok-begun.begun in
    let more : c.push.new.self.items ≡ c.accepting.all.items ++ begun ∷ [] = search rules in
    rw more (
      omega (arith, length-append c.accepting.all.items (begun ∷ []), seen.0),
      rw (map-append connection_of c.accepting.all.items (begun ∷ []))
          (gives_more _ _ _ _ _ seen.1 (rw c.in_ok-begun.ensures c.in_ok-ends.ensures.given)),
    )

pub returns-clause-first : goal.returns-clause-first
returns-clause-first g c =
    let all : length c.accepting.all.items ≡ c.args.connections = search rules in
    gives_first connection_of _ _ c.accepting.all.items c.args.connections all c.accepting.invariant.1
