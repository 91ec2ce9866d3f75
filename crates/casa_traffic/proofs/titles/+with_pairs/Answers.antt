use Rattle.std.proofs.Common.{◌≡◌, ◌-◌, ℕ, suc, rules, subst}
use Rattle.casa_traffic.specs.Gives.{GivesAs}
use Rattle.casa_traffic.specs.Steps.{and_pairs}
use Rattle.casa_traffic.proofs.Pairs.{pair_more}
use Rattle.casa_traffic.proofs.titles.+with_pairs.Goals as goal

pub returns : goal.returns
returns t c =
    let is : suc (c.args.count - 1) ≡ c.args.count = search rules in
    let stepped = pair_more c.args.entries.items c.args.header.now c.args.first (c.args.count - 1) c.in_ok-pair.field-0 c.in_ok-pair.ensures in
    subst (λ (n : ℕ). GivesAs (λ all. all.items) c.with_pairs.result (and_pairs c.args.entries.items c.args.header.now c.args.first n)) is
    (subst (GivesAs (λ all. all.items) c.with_pairs.result) stepped (rw c.in_ok-push.ensures at c.with_pairs.ensures))
