use Rattle.std.proofs.Common.{◌+◌, ◌*◌, length}
use Rattle.casa_item.proofs.stood.+stood.Given as goal

abbrev pub decreases-stand_in_all : goal.decreases-stand_in_all
decreases-stand_in_all l = 5 * length l.all.now.stands.now

abbrev pub decreases-stand_in_list : goal.decreases-stand_in_list
decreases-stand_in_list l = 5 * length l.rest.now.stands.now + 1

abbrev pub decreases-stand_in_copy : goal.decreases-stand_in_copy
decreases-stand_in_copy l = 5 * length l.rest.now.stands.now + 1

abbrev pub decreases-stand_in_shared : goal.decreases-stand_in_shared
decreases-stand_in_shared l = 5 * length l.rest.now.stands.now + 2

abbrev pub decreases-stand_in_item : goal.decreases-stand_in_item
decreases-stand_in_item l = 5 * length l.rest.now.stands.now + 3

abbrev pub decreases-stand_in_version : goal.decreases-stand_in_version
decreases-stand_in_version l = 5 * length l.rest.now.stands.now + 4
