use Rattle.std.proofs.Common.{◌≡◌, ◌∷◌, [], ◌++◌, length-append, refl, sym, subst, arith}
use Rattle.std.proofs.lemmas.List.{length-map, map-append}
use Rattle.casa_history.specs.Entries.{receipts}
use Rattle.casa_engine.specs.Passes.{pass_of}
use Rattle.casa_session.specs.Receipts.{Receipts}
use Rattle.casa_server.specs.Seats.{most_connections, Visit, connections_in, AnswersInTurn}
use Rattle.casa_server.specs.Sources.{IsExhausted}
use Rattle.casa_server.proofs.Seats.{all_of_source, answers_one_more, has_sat, one_more_counted}
use Rattle.casa_server.proofs.Serving.{gives_first, gives_more, gives_none}
use Rattle.casa_server.proofs.Ticking.{at_most_one}
use Rattle.casa_server.proofs.seat.sit.Goals as goal

pub sitting-init : goal.sitting-init
sitting-init g c = ([], gives_none _, c.args.seat.unused, refl, refl, refl, omega arith)

pub sitting-preserved : goal.sitting-preserved
sitting-preserved g c =
    let before = c.sitting.invariant in
    let one = rw c.in-Ok.is at c.answer_next-answered.ensures.answered in
    let visit : Visit g.row.S-Reader.Denot g.row.S-Writer.Denot = one.0 in (
      before.0 ++ visit ∷ [],
      rw (map-append (λ (v : Visit g.row.S-Reader.Denot g.row.S-Writer.Denot). v.0) before.0 (visit ∷ [])) (gives_more _ _ _ _ _ before.1 one.1),
      answers_one_more _ _ _ _ _ before.0 visit before.2 one.2,
      omega (arith, length-append before.0 (visit ∷ []), before.3),
      one_more_counted before.0 visit c.sitting.sat.faulted c.from.result c.in-Ok.is_faulted before.4 one.3 c.from.ensures,
      omega (arith, before.5),
      omega (arith, before.6, at_most_one c.in-Ok.is_faulted, c.from.ensures),
    )

-- the source gave no more
pub returns-in_default : goal.returns-in_default
returns-in_default g c =
    let before = c.sitting.invariant in
    let ended : IsExhausted (g.S.Connections.coming c.sitting.source) × (receipts (pass_of c.answer_next-answered.result.1) ≡ receipts (pass_of c.sitting.pass)) =
    rw c.in_default.is at c.answer_next-answered.ensures.nothing in
    has_sat _ _ _ _ _ before.0 c.answer_next-answered.result.1 c.front-front.result c.sitting.sat c.front-front.ensures.same
    (all_of_source _ _ (connections_in before.0) most_connections (omega (arith, length-map before.0 (λ (v : Visit g.row.S-Reader.Denot g.row.S-Writer.Denot). v.0), before.3, before.5)) before.1 ended.0)
    (subst (λ (r : Receipts). AnswersInTurn g.S.Reader.Read.remaining g.S.Writer.Write.contents [] r before.0) (sym ended.1) before.2) before.3 before.4

-- as many were answered as are counted
pub returns : goal.returns
returns g c =
    let before = c.sitting.invariant in
    has_sat _ _ _ _ _ before.0 c.sitting.pass c.front-front-2.result c.sitting.sat c.front-front-2.ensures.same
    (gives_first (λ (v : Visit g.row.S-Reader.Denot g.row.S-Writer.Denot). v.0) _ _ before.0 most_connections (omega (arith, before.3, before.5)) before.1) before.2 before.3 before.4
