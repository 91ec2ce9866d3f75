use Rattle.std.proofs.Common.{◌≡◌, ◌∙◌, refl, sym, None, Some, inr, rules}
use Rattle.casa_app.specs.Listed.{list_in}
use Rattle.casa_app.specs.Reports.{list_after}
use Rattle.casa_app.proofs.LastReply.{last_list, state_stays}
use Rattle.casa_app.proofs.reports.ask_list.Goals as goal

pub returns-in-Some-clause-told : goal.returns-in-Some-clause-told
returns-in-Some-clause-told c =
    let receipt = c.in-Ok.receipt in
    let asked = last_list c.args.lone.now c.answer.new.self c.args.reg receipt c.in-Ok.ensures.ok c.in-Ok.ensures.called in
    let told : list_after c.args.lone.now c.args.reg ≡ Some c.in-Some.list.now = sym asked ∙ search (rules) in
    rw c.in_ok-try_clone-in-Some.ensures told

pub returns-clause-untold : goal.returns-clause-untold
returns-clause-untold c =
    let receipt = c.in-Ok.receipt in
    let asked = last_list c.args.lone.now c.answer.new.self c.args.reg receipt c.in-Ok.ensures.ok c.in-Ok.ensures.called in
    let untold : list_in receipt.entry.reply ≡ None = search (rules) in
    inr (refl, sym asked ∙ untold)

pub returns-in-Some-clause-stays : goal.returns-in-Some-clause-stays
returns-in-Some-clause-stays c =
    state_stays c.args.lone.now c.answer.new.self c.args.reg c.in-Ok.receipt c.in-Ok.ensures.ok c.in-Ok.ensures.called
