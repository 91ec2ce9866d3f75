use Rattle.std.proofs.Common.{rules}
use Rattle.std.proofs.lemmas.List.Sorted.{answers_always}
use Rattle.casa_filing.specs.FlightPlan.{FlightPlan}
use Rattle.casa_traffic.proofs.making.order_by_eobt.Goals as goal

pub returns-clause-sorted : goal.returns-clause-sorted
returns-clause-sorted c =
    record {
      same = c.in_ok-sort_by_key.ensures.permutation;
      sorted = c.in_ok-sort_by_key.ensures.sorted (λ (p : FlightPlan). p.eobt) (answers_always _ _ _ (λ f a r g k. search rules));
      stable = c.in_ok-sort_by_key.ensures.stable (λ (p : FlightPlan). p.eobt) (answers_always _ _ _ (λ f a r g k. search rules));
    }
