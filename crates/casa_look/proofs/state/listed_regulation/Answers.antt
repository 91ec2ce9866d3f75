use Rattle.std.proofs.Common.{List, ap, ◌∙◌}
use Rattle.casa_grid.specs.declared.period.Period.{Period}
use Rattle.casa_flight.specs.Replies.{list_reply}
use Rattle.casa_look.specs.StateText.{open_regulation}
use Rattle.casa_look.proofs.state.listed_regulation.Goals as goal

pub returns : goal.returns
returns c = λ m r.
    let regulation = c.args.regulation.now in
    let list = c.args.list.now in
    let with_profile : List Period → _ = λ profile. open_regulation regulation.id (record { loc = regulation.loc; profile = profile }) (list_reply m r list) in
    c.of_list.ensures m r ∙ ap with_profile (c.in_ok-clone.ensures ∙ c.profile.ensures ∙ c.grid.ensures.profile)
