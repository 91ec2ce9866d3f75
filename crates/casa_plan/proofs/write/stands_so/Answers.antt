use Rattle.std.proofs.Common.{rules, ◌≡◌, ◌∙◌, Some}
use Rattle.casa_flight.specs.Good.{AreInOrder}
use Rattle.casa_flight.specs.Listing.{Listing, stance_of}
use Rattle.casa_filing.specs.Text.{at_name}
use Rattle.casa_plan_spec.specs.Write.{Lists}
use Rattle.casa_plan.proofs.Stood.{stands_already}
use Rattle.casa_plan.proofs.write.stands_so.Goals as goal

pub returns-in-Some-Some : goal.returns-in-Some-Some
returns-in-Some-Some c =
    λ h v.
    let lists : Lists = c.args.draft.now.lists in
    let list : Listing = c.in-Some-Some.shared in
    let ordered : AreInOrder lists = search rules in
    let flights : AreInOrder list.flights = search rules in
    let there : at_name lists c.args.id.now ≡ Some (Some list) = search rules in
    let same : c.stance_of.result ≡ c.args.stance.now = search rules in
    let stands : stance_of list c.args.key.now ≡ c.stance_of.result = search rules in
    stands_already v c.args.key.now c.args.id.now lists list c.args.stance.now ordered flights there (stands ∙ same)
