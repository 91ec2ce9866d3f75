use Rattle.std.proofs.Common.{rules, arith}
use Rattle.std.specs.Prelude.{pos, ◌<ℤ◌, IsOk}
use Rattle.std.proofs.lemmas.Int.{ints}
use Rattle.jiff_core.proofs.DateLemmas.{epoch_day_range}
use Rattle.jiff_core.specs.Date.{epoch_day}
use Rattle.casa_server.proofs.moments.days_after.Goals as goal

-- only the last date has no next day, and then the other date is not after it
pub returns-in_default-clause-none : goal.returns-in_default-clause-none
returns-in_default-clause-none c = (
  (λ same. search rules),
  (λ later.
      let last = epoch_day_range c.args.date in
      let early : epoch_day c.args.day <ℤ pos 2932896 = omega (arith, ints) in
      let ok : IsOk c.tomorrow.result = c.tomorrow.ensures.succeeds.1 early in
      let bad = rw c.in_default.is at ok in
      absurd (cc)),
)
