-- to believe: what differs between two days
use Rattle.casa_flight.specs.declared.state.State.{State}
use Rattle.casa_difference.specs.declared.comparison.Comparison.{Comparison}
use Rattle.casa_difference.specs.Differences.{differences}
use Rattle.casa_difference.specs.Totals.{totals}

-- what the regulations of each cost together, and the flights that do not stand alike on both
abbrev pub comparison : State → State → Comparison
comparison m n = record { base = totals m; variant = totals n; flights = differences m n }
