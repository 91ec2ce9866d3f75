use Rattle.casa_footprint.proofs.Written.{unwritten_stamp, written_stamp, absent_stamp}
use Rattle.casa_footprint.proofs.laws.stamps_change_where_written.Goals as goal

pub returns-clause-unwritten : goal.returns-clause-unwritten
returns-clause-unwritten c = unwritten_stamp

pub returns-clause-written : goal.returns-clause-written
returns-clause-written c = written_stamp

pub returns-clause-absent : goal.returns-clause-absent
returns-clause-absent c = absent_stamp
