use Rattle.std.proofs.Common.{arith}
use Rattle.casa_rows.proofs.Places.{line_ahead}
use Rattle.casa_rows.proofs.walk.ahead.Goals as goal

pub returns-clause-place : goal.returns-clause-place
returns-clause-place c =
    let counted = line_ahead c.args.text.now c.args.from.at c.args.bytes in
    (c.requires.within, omega (arith, counted, c.requires.place.1, c.line_feeds-passed.ensures.value))
