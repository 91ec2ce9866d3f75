use Rattle.std.proofs.Common.{◌++◌, ◌∙◌, List, ap, append-nil, sym}
use Rattle.std.proofs.lemmas.List.{drop_all}
use Rattle.std.specs.List.{filter_map}
use Rattle.casa_flight.specs.declared.reply.ListReply.{ListReply}
use Rattle.casa_session.specs.Played.{state_after_calls}
use Rattle.casa_app.specs.Pages.{opened}
use Rattle.casa_app.proofs.LastReply.{good_after}
use Rattle.casa_app.proofs.Paged.{opened_told}
use Rattle.casa_app.proofs.pages.open_regulations.Goals as goal

pub returns : goal.returns
returns c =
    let calls = c.args.lone.now in
    let m = state_after_calls calls in
    let all = c.loop-list.all.items in
    let none = drop_all c.loop-list.list-index c.args.lists.now c.loop-list-test.false in
    sym (ap (λ (rest : List ListReply). all ++ filter_map (opened m) rest) none ∙ append-nil all) ∙ c.loop-list.invariant
    ∙ ap (filter_map (opened m)) c.requires ∙ opened_told m (good_after calls)
