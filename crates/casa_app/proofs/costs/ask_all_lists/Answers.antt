use Rattle.std.proofs.Common.{◌≡◌, List, [], ◌∷◌, ◌++◌, Some, length, take, sym, ap, refl, ◌∙◌}
use Rattle.std.specs.List.{slice_get}
use Rattle.std.proofs.lemmas.List.{take_more}
use Rattle.std.proofs.lemmas.Option.{get_or_from_slice_get, slice_get_read, slice_get_within}
use Rattle.casa_filing.specs.declared.regulation.Regulation.{Regulation}
use Rattle.casa_flight.specs.declared.reply.ListReply.{ListReply}
use Rattle.casa_flight.specs.State.{catalogue}
use Rattle.casa_session.specs.Played.{state_after_calls}
use Rattle.casa_app.specs.Summaries.{lists_after}
use Rattle.casa_app.proofs.AllListed.{is_listed, next_told, only_no_memory}
use Rattle.casa_app.proofs.costs.ask_all_lists.Goals as goal

pub loop-regulation-preserved : goal.loop-regulation-preserved
loop-regulation-preserved c =
    let before = c.args.lone.now in
    let lists = lists_after before in
    let i = c.loop-regulation.regulation-index in
    let r = c.regulation-item.result in
    let items = c.as_slice-regulation-items in
    let there = slice_get_read items.result.now (length items.result.now) i r refl c.loop-regulation-test.true c.regulation-item.is in
    let same = items.ensures.value ∙ c.in_ok-regulations.ensures.items ∙ c.catalogue.ensures in
    let found : slice_get (catalogue (state_after_calls before)) i ≡ Some r = ap (λ (rs : List Regulation). slice_get rs i) (sym same) ∙ there in
    let list = c.in_ok-list.list in
    let next = next_told before c.loop-regulation.lone c.loop-regulation.invariant.stays i r found list c.in_ok-list.ensures.told in
    record {
      told =
          c.in-Ok.ensures.items ∙ ap (λ (ls : List ListReply). ls ++ list ∷ []) c.loop-regulation.invariant.told
          ∙ ap (λ (l : ListReply). take i lists ++ l ∷ []) (sym (get_or_from_slice_get lists i list list next))
          ∙ sym (take_more lists i list (slice_get_within lists i list next));
      stays = c.in_ok-list.ensures.stays ∙ c.loop-regulation.invariant.stays;
    }

pub returns-in_err-list-clause-no_memory : goal.returns-in_err-list-clause-no_memory
returns-in_err-list-clause-no_memory c =
    let before = c.args.lone.now in
    let i = c.loop-regulation.regulation-index in
    let r = c.regulation-item.result in
    let items = c.as_slice-regulation-items in
    let there = slice_get_read items.result.now (length items.result.now) i r refl c.loop-regulation-test.true c.regulation-item.is in
    let same = items.ensures.value ∙ c.in_ok-regulations.ensures.items ∙ c.catalogue.ensures in
    let found : slice_get (catalogue (state_after_calls before)) i ≡ Some r = ap (λ (rs : List Regulation). slice_get rs i) (sym same) ∙ there in
    only_no_memory c.from_residual-in_err-list.result c.in_err-list.field-0.0 c.from_residual-in_err-list.ensures.1 c.in_err-list.ensures.untold
    (is_listed before c.loop-regulation.lone c.loop-regulation.invariant.stays i r found)
