use Rattle.std.proofs.Common.{◌-◌, ◌++◌, ◌∙◌, List, ℕ, false, sym, ap, arith, append-nil}
use Rattle.std.specs.List.{flat_map}
use Rattle.casa_app.specs.Remarks.{Remark, remark_line}
use Rattle.casa_app.proofs.Noted.{take_one}
use Rattle.casa_app.proofs.notes.push_first.Goals as goal

pub returns-then-count-lt-MOST-clause-text : goal.returns-then-count-lt-MOST-clause-text
returns-then-count-lt-MOST-clause-text c =
    let one : Remark = record { number = c.args.number; reply = c.args.reply.now } in
    c.push_remark.ensures.text ∙ ap (λ (l : List ℕ). c.args.text.now.items ++ l) (sym (append-nil (remark_line false one)) ∙ ap (flat_map (remark_line false)) (sym (take_one (10 - c.args.count) one (omega arith))))
