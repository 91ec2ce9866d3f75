use Rattle.std.proofs.Common.{◌≡◌, ◌∙◌, ◌+◌, ◌<◌, ◌≤◌, Some, refl, ap, sym, subst, take, drop, length, arith, List, rules}
use Rattle.casa_grid.specs.Slots.{slots}
use Rattle.casa_flight.specs.declared.comp.Assigned.{Assigned}
use Rattle.casa_flight.specs.declared.comp.Comp.{Comp}
use Rattle.casa_flight.specs.declared.row.Stance.TheVariants.{Competing}
use Rattle.casa_flight.specs.Listing.{Listing, places, place_of}
use Rattle.casa_slots.specs.Walk.{followed, comps_in, place_low, low_behind, IsWithin}
use Rattle.casa_list.proofs.Changes.{with_flight}
use Rattle.casa_list.proofs.Entering.{kept_left}
use Rattle.casa_list.proofs.Freeing.{place_anew, place_within}
use Rattle.casa_list.proofs.Keeping.{index_of, kept_follow, standing_within, stands}
use Rattle.casa_list.proofs.Room.{many_out}
use Rattle.casa_list.proofs.Searched.{sorted_places}
use Rattle.casa_list.proofs.list.SlotList.place_replanned.Goals as goal

pub index_of-out-requires : goal.index_of-out-requires
index_of-out-requires c =
    let l : Listing = record { profile = c.self.inside.grid; flights = c.self.inside.flights } in
    let xs = c.competitors.result.now in
    let are : xs ≡ places l = search (rules, c.self.invariant.competitors_are) in
    sorted_places l xs are

pub place_once_moved-requires-clause-within : goal.place_once_moved-requires-clause-within
place_once_moved-requires-clause-within c =
    let own : Comp = record { eto = c.args.was; key = c.args.comp.now.key } in
    let found = stands _ _ own.key (Some (Competing own.eto)) c.self.view_is c.requires in
    let xs = c.self.inside.governed.competitors in
    let at : c.index_of-out.result ≡ index_of xs own = rw (← c.competitors.ensures) c.index_of-out.ensures.value in
    let within : index_of xs own < length xs = standing_within own c.self.invariant found in
    omega (arith, at, within)

pub place_once_moved-requires-clause-sorted : goal.place_once_moved-requires-clause-sorted
place_once_moved-requires-clause-sorted c =
    sorted_places (record { profile = c.self.inside.grid; flights = c.self.inside.flights }) c.self.inside.governed.competitors c.self.invariant.competitors_are

pub place_once_moved-requires-clause-follow : goal.place_once_moved-requires-clause-follow
place_once_moved-requires-clause-follow c = kept_follow (c.index_of-out.result + 1) c.self.invariant

pub returns : goal.returns
returns c =
    let ws = slots c.self.inside.grid in
    let bs = c.self.inside.blocked.counts in
    let comp : Comp = c.args.comp.now in
    let own : Comp = record { eto = c.args.was; key = comp.key } in
    let found = stands _ _ own.key (Some (Competing own.eto)) c.self.view_is c.requires in
    let xs : List Assigned = c.self.inside.governed.competitors in
    let at : c.index_of-out.result ≡ index_of xs own = rw (← c.competitors.ensures) c.index_of-out.ensures.value in
    let ys : List Assigned = followed ws bs (take (index_of xs own) xs) (comps_in (drop (index_of xs own + 1) xs)) in
    let room = c.self.invariant.room_is in
    let many = many_out ws bs (index_of xs own) xs ys refl in
    let enough : length ys + length c.self.inside.governed.issued ≤ c.self.inside.blocked.room = omega (arith, many, room) in
    let less = kept_left own ys c.self.invariant found refl enough in
    let is : c.place_once_moved.result ≡ place_low ws bs (low_behind (length bs) 0 (take (index_of ys comp) ys)) comp.eto =
    c.place_once_moved.ensures ∙ (λ j. let zs : List Assigned = followed ws bs (take (at j) xs) (comps_in (drop (at j + 1) xs)) in place_low ws bs (low_behind (length bs) 0 (take (index_of zs comp) zs)) comp.eto) in
    record {
      place = is ∙ sym (place_anew comp c.self.invariant less) ∙ ap (λ (m : Listing). place_of (with_flight m comp.key (Competing comp.eto)) comp.key) c.self.view_is;
      within = subst (λ (m : Listing). IsWithin (length (slots m.profile)) c.place_once_moved.result) c.self.view_is (place_within _ _ _ less is);
    }
