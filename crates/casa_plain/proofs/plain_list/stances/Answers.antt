use Rattle.std.proofs.Common.{arith}
use Rattle.std.proofs.lemmas.Grind.{common_steps}
use Rattle.casa_flight.specs.Listing.{stance_in}
use Rattle.casa_plain.proofs.InOrder.{put_all-kept}
use Rattle.casa_plain.proofs.plain_list.stances.Goals as goal

pub returns : goal.returns
returns c =
    let all = put_all-kept (stance_in c.args.id c.args.measure.now) c.args.rows.now.entries c.iter-key-items.ensures.ordered in
    grind (arith, common_steps, all)
