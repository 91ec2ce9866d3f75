use Rattle.std.proofs.Common.{◌≡◌, ◌∙◌, ◌+◌, ◌<◌, ◌≤◌, Some, true, is_some, ap, subst, length, rules, arith}
use Rattle.std.specs.List.{remove}
use Rattle.std.below.core.specs.declared.int.usize.TheConstants.{MAX}
use Rattle.std.proofs.lemmas.Bool.{both_ways}
use Rattle.std.proofs.lemmas.Cmp.{nat_list_eq_equiv}
use Rattle.casa_flight.specs.declared.comp.Comp.{Comp}
use Rattle.casa_flight.specs.declared.row.Stance.TheVariants.{Competing}
use Rattle.casa_filing.specs.Text.{same_text}
use Rattle.casa_flight.specs.Listing.{Listing, places, place_of}
use Rattle.casa_laws.proofs.MovesNobody.{place_issued}
use Rattle.casa_list.proofs.Keeping.{index_of, standing_within, kept_few, kept_roomy, stands}
use Rattle.casa_list.proofs.Issuing.{kept_issued, issue_time}
use Rattle.casa_list.proofs.Searched.{sorted_places, sorted_issued}
use Rattle.casa_list.proofs.Room.{many_held}
use Rattle.std.proofs.lemmas.List.Edits.{length-remove}
use Rattle.casa_slots.specs.declared.standing.Standing.TheVariants.{Issued}
use Rattle.casa_list.proofs.list.SlotList.issue.Goals as goal

pub issue-requires-clause-within : goal.issue-requires-clause-within
issue-requires-clause-within c =
    let comp : Comp = record { eto = c.in_ok-eto.eto; key = c.args.key.now } in
    let found = stands _ _ comp.key (Some (Competing comp.eto)) c.self.view_is c.in_ok-eto.ensures.found in
    let xs = c.self.inside.governed.competitors in
    let at : c.index_of-at.result ≡ index_of xs comp = rw (← c.competitors.ensures) c.index_of-at.ensures.value in
    let within : index_of xs comp < length xs = standing_within comp c.self.invariant found in
    rw at (search rules)

pub write_issued-requires : goal.write_issued-requires
write_issued-requires c = ap is_some (stands _ _ c.args.key.now (Some (Competing c.in_ok-eto.eto)) c.self.view_is c.in_ok-eto.ensures.found)

pub issue-requires-clause-sorted : goal.issue-requires-clause-sorted
issue-requires-clause-sorted c = sorted_issued c.self.invariant

pub block-requires : goal.block-requires
block-requires c =
    let comp : Comp = record { eto = c.in_ok-eto.eto; key = c.args.key.now } in
    let found = stands _ _ comp.key (Some (Competing comp.eto)) c.self.view_is c.in_ok-eto.ensures.found in
    let few : length c.self.inside.governed.issued < MAX = omega (arith, c.len-many.ensures.number, c.len-many.ensures.few) in
    let within : index_of c.self.inside.governed.competitors comp < length c.self.inside.governed.competitors = standing_within comp c.self.invariant found in
    let room = c.self.invariant.room_is in
    let some : length c.self.inside.governed.issued < c.self.inside.blocked.room = omega (arith, within, room) in
    record {
      few = kept_few MAX c.self.invariant few;
      room = λ valid. kept_roomy _ c.self.invariant valid some;
    }

pub invariant_of-self : goal.invariant_of-self
invariant_of-self c =
    let comp : Comp = record { eto = c.in_ok-eto.eto; key = c.args.key.now } in
    let found = stands _ _ comp.key (Some (Competing comp.eto)) c.self.view_is c.in_ok-eto.ensures.found in
    let cto = c.competitor_cto-cto.result in
    let xs = c.self.inside.governed.competitors in
    let ys = c.issue.new.self.competitors in
    let at : c.index_of-at.result ≡ index_of xs comp = rw (← c.competitors.ensures) c.index_of-at.ensures.value in
    let less : ys ≡ remove xs (index_of xs comp) = c.issue.ensures.competitors ∙ ap (remove xs) at in
    let room = c.self.invariant.room_is in
    let within : index_of xs comp < length xs = standing_within comp c.self.invariant found in
    let gone = length-remove xs (index_of xs comp) within in
    let size : length ys ≡ length (remove xs (index_of xs comp)) = ap length less in
    let held = many_held (comp, Issued cto) c.issue.new.self.issued c.self.inside.governed.issued c.issue.ensures.issued in
    let grown : c.self.inside.blocked.room ≤ c.block.new.blocked.room = search rules in
    let enough : length ys + length c.issue.new.self.issued ≤ c.block.new.blocked.room = omega (arith, gone, size, held, room, grown) in
    rw c.write_issued.ensures
    (kept_issued comp cto ys _ _ _ c.self.invariant c.block.ensures.valid found (issue_time _ _ comp cto c.self.view_is found c.competitor_cto-cto.ensures) less c.issue.ensures.issued c.block.ensures.counts enough)

pub returns-clause-others : goal.returns-clause-others
returns-clause-others c =
    let l : Listing = record { profile = c.self.inside.grid; flights = c.self.inside.flights } in
    let comp : Comp = record { eto = c.in_ok-eto.eto; key = c.args.key.now } in
    let found = stands l _ comp.key (Some (Competing comp.eto)) c.self.view_is c.in_ok-eto.ensures.found in
    let cto = c.competitor_cto-cto.result in
    let time = issue_time l _ comp cto c.self.view_is found c.competitor_cto-cto.ensures in
    λ other apart.
    ap (λ es. place_of (record l { flights = es }) other) c.write_issued.ensures
    ∙ place_issued l comp.key other comp.eto cto c.block.ensures.valid c.self.invariant.keys found time (λ same. both_ways _ apart (subst (λ q. same_text other q ≡ true) same (nat_list_eq_equiv.refl other)))
    ∙ ap (λ (m : Listing). place_of m other) c.self.view_is

pub index_of-at-requires : goal.index_of-at-requires
index_of-at-requires c =
    let l : Listing = record { profile = c.self.inside.grid; flights = c.self.inside.flights } in
    let xs = c.competitors.result.now in
    let are : xs ≡ places l = search (rules, c.self.invariant.competitors_are) in
    sorted_places l xs are
