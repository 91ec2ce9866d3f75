use Rattle.casa_best.proofs.Filed.{delay_filed, place-entered, row_filed}
use Rattle.casa_best.proofs.laws.who_is_filed_shortens_no_delay.Goals as goal

pub returns-clause-places : goal.returns-clause-places
returns-clause-places c = place-entered

pub returns-clause-filed : goal.returns-clause-filed
returns-clause-filed c = λ m plan other row sorted valid apart found. (row_filed m plan other row apart found, delay_filed m plan other row sorted valid apart)
