use Rattle.std.proofs.Common.{refl, rules}
use Rattle.casa_day.proofs.journal.Journal.begin.Goals as goal

pub returns-clause-begun : goal.returns-clause-begun
returns-clause-begun g c = record {
  tape_is = refl;
  journaled = refl;
  opening = record { position = c.args.journaled; at = c.of-at.result };
  alone = search rules;
  all = refl;
  now = c.of-at.ensures;
}
