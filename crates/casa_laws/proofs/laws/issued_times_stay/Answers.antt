use Rattle.casa_laws.proofs.IssuedTimes.{issued_stays, governed_stays, others_stay, refused_stays}
use Rattle.casa_laws.proofs.laws.issued_times_stay.Goals as goal

pub returns-clause-issued : goal.returns-clause-issued
returns-clause-issued c = issued_stays

pub returns-clause-governed : goal.returns-clause-governed
returns-clause-governed c = governed_stays

pub returns-clause-others : goal.returns-clause-others
returns-clause-others c = others_stay

pub returns-clause-refusals : goal.returns-clause-refusals
returns-clause-refusals c = refused_stays
