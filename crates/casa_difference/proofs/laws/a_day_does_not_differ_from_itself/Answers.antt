use Rattle.casa_difference.specs.Differences.{keys_of_either}
use Rattle.casa_difference.proofs.Told.{same-day}
use Rattle.casa_difference.proofs.laws.a_day_does_not_differ_from_itself.Goals as goal

pub returns : goal.returns
returns c = λ m. same-day m (keys_of_either m m)
