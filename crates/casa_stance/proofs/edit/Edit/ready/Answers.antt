use Rattle.std.proofs.Common.{◌≡◌, ◌∙◌, sym, None, rules}
use Rattle.casa_flight.specs.Listing.{stance_of}
use Rattle.casa_stance.proofs.Standing.{with_same, out_again}
use Rattle.casa_stance.proofs.edit.Edit.ready.Goals as goal

pub returns-then-is_stance-clause-finished : goal.returns-then-is_stance-clause-finished
returns-then-is_stance-clause-finished c =
    sym (with_same c.args.list.now c.args.key c.args.stance c.stance_of-was.ensures.keys
    (sym c.stance_of-was.ensures.stance ∙ c.is_stance.ensures c.if-is_stance.true))

pub returns-in-None-Some-clause-undone : goal.returns-in-None-Some-clause-undone
returns-in-None-Some-clause-undone c =
    let absent : stance_of c.args.list.now c.args.key ≡ None = search rules in
    out_again c.args.list.now c.put_in.new.list c.args.key c.in-None-Some.stance c.stance_of-was.ensures.keys
    absent c.in_ok-put_in.ensures.stands
