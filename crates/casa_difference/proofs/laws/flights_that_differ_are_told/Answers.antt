use Rattle.casa_difference.proofs.Told.{told-differ}
use Rattle.casa_difference.proofs.laws.flights_that_differ_are_told.Goals as goal

pub returns : goal.returns
returns c = told-differ
