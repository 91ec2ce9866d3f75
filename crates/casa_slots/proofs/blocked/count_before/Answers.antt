use Rattle.std.proofs.Common.{ℕ, nat_lt, rules}
use Rattle.std.proofs.lemmas.List.Sorted.{IsPartitionPoint-from_clause}
use Rattle.casa_slots.proofs.Found.{first_failing}
use Rattle.casa_slots.proofs.Sparse.{slots_parted}
use Rattle.casa_slots.proofs.blocked.count_before.Goals as goal

pub returns-clause-value : goal.returns-clause-value
returns-clause-value c =
    let k = c.args.slot in
    let point = IsPartitionPoint-from_clause (λ (e : ℕ × ℕ). nat_lt e.0 k) _ _ c.partition_point.ensures.partitioned (slots_parted 0 c.args.slots c.args.blocks.now k c.requires) (λ a r q h. search rules) in
    first_failing (λ (e : ℕ × ℕ). nat_lt e.0 k) (0, 0) _ _ c.partition_point.ensures.bound point
