use Rattle.casa_laws.proofs.Times.{delay_governed, delay_free}
use Rattle.casa_laws.proofs.laws.delay_is_of_the_place.Goals as goal

pub returns-clause-governed : goal.returns-clause-governed
returns-clause-governed c = delay_governed

pub returns-clause-free : goal.returns-clause-free
returns-clause-free c = delay_free
