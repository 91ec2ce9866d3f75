use Rattle.std.proofs.Common.{◌∙◌, ap, Bool}
use Rattle.std.specs.Prelude.{◌||◌}
use Rattle.casa_import.specs.Keyed.{has_key}
use Rattle.casa_import.proofs.Lookups.{cond-true, same_test}
use Rattle.casa_import.proofs.crossings.Keys.insert.Goals as goal

pub returns : goal.returns
returns c = λ other.
    c.in_ok-insert.ensures.updates.0 other ∙ cond-true _ (has_key c.args.self.now other)
    ∙ ap (λ (b : Bool). b || has_key c.args.self.now other) (same_test c.args.key other)
