use Rattle.std.proofs.Common.{refl}
use Rattle.casa_live.proofs.Tallied.{tallied}
use Rattle.casa_live.proofs.tally.Tally.add.Goals as goal

pub returns-then-is_refused : goal.returns-then-is_refused
returns-then-is_refused c = λ history fits is.
    tallied history c.args.entry.now c.args.self.now _ fits is c.saturating_add-self.ensures
    (rw (← c.number_of-number.ensures.command) c.count.ensures)
    (rw (← c.is_refused.ensures, c.if-is_refused.true, ← c.number_of-number.ensures.command) c.count-then-is_refused.ensures)

pub returns-else-is_refused : goal.returns-else-is_refused
returns-else-is_refused c = λ history fits is.
    tallied history c.args.entry.now c.args.self.now _ fits is c.saturating_add-self.ensures
    (rw (← c.number_of-number.ensures.command) c.count.ensures)
    (rw (← c.is_refused.ensures, c.if-is_refused.false) refl)
