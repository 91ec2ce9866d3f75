use Rattle.std.proofs.Common.{◌≡◌, Some, sym, ap, ◌∙◌, rules}
use Rattle.std.specs.Option.{option_copied}
use Rattle.casa_flight.specs.declared.state.State.{State}
use Rattle.casa_flight.specs.Listing.{list_of}
use Rattle.casa_commit.specs.Rooms.{entries_of}
use Rattle.casa_footprint.specs.Stamps.{state_after}
use Rattle.casa_plan.proofs.Served.{served_as}
use Rattle.casa_plan.proofs.rooms.competitor_of.Goals as goal

pub returns : goal.returns
returns g c =
    let m = state_after (entries_of c.args.room.now) in
    let id = c.args.id.now in
    let stands = c.board_of.ensures.stands in
    let given : option_copied c.list.result ≡ Some c.in_ok-list.list.now = search rules in
    let is_open : list_of m id ≡ Some c.in_ok-list.list.now =
    ap (λ (s : State). list_of s id) (sym stands.state) ∙ sym (stands.lists id) ∙ sym c.list.ensures ∙ given in
    served_as m id c.args.n c.in_ok-list.list.now c.competitor.result is_open c.competitor.ensures
