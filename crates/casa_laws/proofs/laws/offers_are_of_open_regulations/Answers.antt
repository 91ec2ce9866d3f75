use Rattle.casa_laws.proofs.Chosen.{offers_open, offers_subject}
use Rattle.casa_laws.proofs.laws.offers_are_of_open_regulations.Goals as goal

pub returns-clause-open : goal.returns-clause-open
returns-clause-open c = offers_open

pub returns-clause-subject : goal.returns-clause-subject
returns-clause-subject c = offers_subject
