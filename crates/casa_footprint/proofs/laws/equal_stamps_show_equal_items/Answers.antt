use Rattle.casa_footprint.proofs.Stamps.{same_item, same_view, same_absence}
use Rattle.casa_footprint.proofs.laws.equal_stamps_show_equal_items.Goals as goal

pub returns-clause-item : goal.returns-clause-item
returns-clause-item c = same_item

pub returns-clause-view : goal.returns-clause-view
returns-clause-view c = same_view

pub returns-clause-absent : goal.returns-clause-absent
returns-clause-absent c = same_absence
