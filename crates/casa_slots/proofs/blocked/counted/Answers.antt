use Rattle.std.proofs.Common.{◌≡◌, ◌≤◌, length, sym, subst, rules}
use Rattle.std.below.core.specs.declared.int.u32.TheConstants.{MAX}
use Rattle.casa_grid.specs.Profile.{IsProfile}
use Rattle.casa_grid.specs.Slots.{slots}
use Rattle.casa_slots.proofs.Few.{few_slots}
use Rattle.casa_slots.proofs.blocked.counted.Goals as goal

pub none-requires : goal.none-requires
none-requires c =
    let valid : IsProfile c.args.grid.now = search (rules, c.periods-periods.ensures.valid) in
    let size : c.len.result ≡ length (slots c.args.grid.now) = search rules in
    subst (λ n. n ≤ MAX) (sym size) (few_slots c.args.grid.now valid)
