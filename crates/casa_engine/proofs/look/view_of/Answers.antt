use Rattle.std.proofs.Common.{◌≡◌, sym, subst, ap, ◌∙◌}
use Rattle.std.proofs.lemmas.Option.{cond_some}
use Rattle.casa_flight.specs.declared.state.State.{State}
use Rattle.casa_flight.specs.Good.{IsGood}
use Rattle.casa_footprint.specs.Footprint.{reads}
use Rattle.casa_footprint.specs.Items.{contents}
use Rattle.casa_footprint.specs.Stamps.{state_after}
use Rattle.casa_commit.specs.Rooms.{entries_of}
use Rattle.casa_plan.proofs.Replayed.{state_replayed}
use Rattle.casa_view.specs.BoardState.{BoardState}
use Rattle.casa_view.specs.View.{IsViewOf, Shows}
use Rattle.casa_engine.proofs.look.view_of.Goals as goal

pub returns : goal.returns
returns g c =
    let item_of = g.K.Version.Version.item_of in
    let call = c.args.call.now in
    let view = c.in_ok-view.view in
    let history = entries_of c.args.room.now in
    let well = c.world.ensures.good in
    let is = c.in_ok-view.ensures.reads well in
    let after = ap (λ (s : BoardState). s.state) c.world.ensures.replay ∙ state_replayed history in
    let stands = c.board_of-board.ensures.stands in
    let good : IsGood (state_after history) = subst IsGood stands.state stands.good in
    record {
      sequential = c.board_of-board.ensures.sequential;
      good = good;
      for_call = (_, well.good, is);
      shown = subst (λ (m : State). Shows item_of m view) after (λ i x shown. (cond_some _ _ x (sym (is i) ∙ shown)).1);
    }
