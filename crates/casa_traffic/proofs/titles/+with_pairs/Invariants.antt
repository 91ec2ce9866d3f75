use Rattle.casa_traffic.proofs.titles.+with_pairs.Given as goal

abbrev pub decreases-with_pairs : goal.decreases-with_pairs
decreases-with_pairs l = l.count
