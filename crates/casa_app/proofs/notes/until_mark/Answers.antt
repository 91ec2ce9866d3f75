use Rattle.std.proofs.Common.{sym, arith, rules, length}
use Rattle.std.proofs.lemmas.List.Sums.{position_or_len_is}
use Rattle.casa_app.specs.Remarks.{is_mark}
use Rattle.casa_app.proofs.notes.until_mark.Goals as goal

pub returns-then-text-at-eq34-clause-value : goal.returns-then-text-at-eq34-clause-value
returns-then-text-at-eq34-clause-value c = sym (position_or_len_is is_mark c.args.text.now c.bytes.at 0 (omega arith) c.bytes.invariant (λ h. search rules))

pub returns-clause-value : goal.returns-clause-value
returns-clause-value c = sym (position_or_len_is is_mark c.args.text.now (length c.args.text.now) 0 (omega arith) (λ k h. c.bytes.invariant k (omega arith)) (λ h. absurd (omega arith)))
