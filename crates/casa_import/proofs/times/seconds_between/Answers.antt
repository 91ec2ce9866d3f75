use Rattle.std.proofs.Common.{arith, ap, ◌≡◌}
use Rattle.std.proofs.lemmas.Int.{ints}
use Rattle.jiff_core.specs.Date.{epoch_day}
use Rattle.casa_import.proofs.times.seconds_between.Goals as goal

pub returns : goal.returns
returns c =
    let from : epoch_day c.to_plain.result ≡ epoch_day c.args.day = ap epoch_day c.to_plain.ensures in
    let to : epoch_day c.to_plain-2.result ≡ epoch_day c.args.date = ap epoch_day c.to_plain-2.ensures in
    omega (arith, ints, c.until-days.ensures.value, c.until-days.ensures.bound.0, c.until-days.ensures.bound.1)
