use Rattle.std.proofs.Common.{◌≡◌, ◌∙◌, ◌+◌, ◌≤◌, Some, refl, ap, sym, subst, take, drop, length, arith, List, ℕ, Option}
use Rattle.std.specs.List.{remove}
use Rattle.casa_grid.specs.Slots.{slots, window_of}
use Rattle.casa_flight.specs.declared.comp.Assigned.{Assigned}
use Rattle.casa_flight.specs.declared.comp.Comp.{Comp}
use Rattle.casa_flight.specs.declared.row.Stance.TheVariants.{Competing, Issued}
use Rattle.casa_flight.specs.Listing.{Listing, place_of}
use Rattle.casa_slots.specs.declared.standing.Standing.{Standing}
use Rattle.casa_slots.specs.Blocked.{lowered}
use Rattle.casa_slots.specs.Walk.{followed, comps_in, place_low, low_behind, walked_from_slot, FollowFirst, IsWithin}
use Rattle.casa_list.specs.Standings.{index_in}
use Rattle.casa_list.proofs.Changes.{with_flight}
use Rattle.casa_list.proofs.Freeing.{place_anew, place_within}
use Rattle.casa_list.proofs.Holding.{kept_unheld, kept_follow_lowered}
use Rattle.casa_list.proofs.Keeping.{index_of, kept_rise, stands}
use Rattle.casa_list.proofs.Moved.{first_from, moved_from_slot, follow_from_slot}
use Rattle.casa_list.proofs.Room.{many_from_slot, few_left}
use Rattle.casa_list.proofs.Searched.{sorted_places}
use Rattle.casa_list.proofs.list.SlotList.place_withdrawn.Goals as goal

pub first_from_slot-from-requires : goal.first_from_slot-from-requires
first_from_slot-from-requires c = kept_rise c.self.invariant

pub place_once_moved-requires-clause-sorted : goal.place_once_moved-requires-clause-sorted
place_once_moved-requires-clause-sorted c =
    sorted_places (record { profile = c.self.inside.grid; flights = c.self.inside.flights }) c.self.inside.governed.competitors c.self.invariant.competitors_are

pub place_once_moved-requires-clause-follow : goal.place_once_moved-requires-clause-follow
place_once_moved-requires-clause-follow c =
    let ws = slots c.self.inside.grid in
    let slot = c.slot_of-slot.result in
    let bs = lowered c.self.inside.blocked.counts slot in
    let xs : List Assigned = c.self.inside.governed.competitors in
    subst (λ n. FollowFirst ws bs (drop n xs)) (sym c.first_from_slot-from.ensures.value)
    (follow_from_slot ws bs xs slot (kept_follow_lowered bs slot c.self.invariant refl))

pub returns : goal.returns
returns c =
    let ws = slots c.self.inside.grid in
    let slot : Option ℕ = window_of ws c.args.cto in
    let bs : List ℕ = lowered c.self.inside.blocked.counts slot in
    let comp : Comp = c.args.comp.now in
    let own : Comp = record { eto = c.requires.0; key = comp.key } in
    let found = stands _ _ own.key (Some (Issued own.eto c.args.cto)) c.self.view_is c.requires.1 in
    let xs : List Assigned = c.self.inside.governed.competitors in
    let fs : List (Comp × Standing) = c.self.inside.governed.issued in
    let gs : List (Comp × Standing) = remove fs (index_in fs own) in
    let ys : List Assigned = walked_from_slot ws bs xs slot in
    let room = c.self.invariant.room_is in
    let many = many_from_slot ws bs slot xs ys refl in
    let few = few_left (index_in fs own) fs gs refl in
    let enough : length ys + length gs ≤ c.self.inside.blocked.room = omega (arith, many, few, room) in
    let less = kept_unheld own c.args.cto ys gs bs c.self.invariant c.slot_of-slot.ensures.valid found refl refl refl enough in
    let from_is : c.first_from_slot-from.result ≡ first_from xs slot = c.first_from_slot-from.ensures.value ∙ ap (first_from xs) c.slot_of-slot.ensures.value in
    let is : c.place_once_moved.result ≡ place_low ws bs (low_behind (length bs) 0 (take (index_of ys comp) ys)) comp.eto =
    c.place_once_moved.ensures
    ∙ (λ j. let ds : List ℕ = lowered c.self.inside.blocked.counts (c.slot_of-slot.ensures.value j) in let zs : List Assigned = followed ws ds (take (from_is j) xs) (comps_in (drop (from_is j) xs)) in place_low ws ds (low_behind (length ds) 0 (take (index_of zs comp) zs)) comp.eto)
    ∙ ap (λ (zs : List Assigned). place_low ws bs (low_behind (length bs) 0 (take (index_of zs comp) zs)) comp.eto) (moved_from_slot ws bs xs slot) in
    record {
      place = is ∙ sym (place_anew comp c.self.invariant less) ∙ ap (λ (m : Listing). place_of (with_flight m comp.key (Competing comp.eto)) comp.key) c.self.view_is;
      within = subst (λ (m : Listing). IsWithin (length (slots m.profile)) c.place_once_moved.result) c.self.view_is (place_within _ _ _ less is);
    }
