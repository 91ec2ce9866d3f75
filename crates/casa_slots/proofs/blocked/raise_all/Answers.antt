use Rattle.std.proofs.Common.{◌≡◌, ◌∙◌, ◌<◌, ◌≤◌, List, length, map, take, get_or, ap, sym, subst, sum, rules, arith}
use Rattle.std.specs.List.{AllByRecursion}
use Rattle.std.below.core.specs.declared.int.usize.TheConstants.{MAX}
use Rattle.std.proofs.lemmas.List.{length-map, get_or-map}
use Rattle.casa_grid.specs.Slots.{slots, window_of}
use Rattle.casa_flight.specs.declared.comp.Assigned.{Assigned}
use Rattle.casa_flight.specs.declared.comp.Comp.{Comp}
use Rattle.casa_slots.specs.declared.standing.Standing.{Standing}
use Rattle.casa_slots.specs.Blocked.{counts, times_in, raised}
use Rattle.casa_slots.specs.Seat.{issued_in, number_of_place}
use Rattle.casa_slots.proofs.Counts.{counts-none, counts-bounded, counts-sum, counts_next, times_few}
use Rattle.casa_slots.proofs.blocked.raise_all.Goals as goal

pub loop-i-init : goal.loop-i-init
loop-i-init c = (c.requires.none ∙ sym (counts-none (slots c.args.grid.now)), omega arith)

pub raise-requires-clause-few : goal.raise-requires-clause-few
raise-requires-clause-few c =
    let fs : List (Comp × Standing) = map issued_in c.args.issued.now in
    let few : length (times_in (take c.loop-i.i fs)) ≤ c.loop-i.i = times_few c.loop-i.i fs in
    let under : c.loop-i.i < length c.args.issued.now = search rules in
    let all : length (times_in (take c.loop-i.i fs)) < MAX = omega (arith, few, under) in
    subst (λ bs. AllByRecursion (λ n. n < MAX) bs) (sym c.loop-i.invariant.0) (counts-bounded (slots c.args.grid.now) (times_in (take c.loop-i.i fs)) MAX all)

pub raise-requires-clause-room : goal.raise-requires-clause-room
raise-requires-clause-room c =
    let fs : List (Comp × Standing) = map issued_in c.args.issued.now in
    let few : length (times_in (take c.loop-i.i fs)) ≤ c.loop-i.i = times_few c.loop-i.i fs in
    let under : c.loop-i.i < length c.args.issued.now = search rules in
    let is : sum c.loop-i.blocked.counts ≡ sum (counts (slots c.args.grid.now) (times_in (take c.loop-i.i fs))) = ap sum c.loop-i.invariant.0 in
    let most = counts-sum c.args.grid.now (times_in (take c.loop-i.i fs)) c.slot_of-slot.ensures.valid in
    omega (arith, few, under, is, most, c.loop-i.invariant.1, c.requires.room)

pub loop-i-preserved : goal.loop-i-preserved
loop-i-preserved c =
    let ws = slots c.args.grid.now in
    let fs : List (Comp × Standing) = map issued_in c.args.issued.now in
    let a : Assigned = c.index-issued-i.result in
    let under : c.loop-i.i < length c.args.issued.now = c.loop-i-test.true in
    let size : length fs ≡ length c.args.issued.now = length-map c.args.issued.now issued_in in
    let is : issued_in a ≡ get_or fs c.loop-i.i (issued_in a) = ap issued_in c.index-issued-i.is ∙ sym (get_or-map issued_in c.args.issued.now c.loop-i.i a (issued_in a) under) in
    let slot_is : c.slot_of-slot.result ≡ window_of ws (number_of_place a.place) = c.slot_of-slot.ensures.value ∙ ap (window_of ws) c.cto.ensures in (
      c.raise.ensures.counts
          ∙ (λ j. raised (c.loop-i.invariant.0 j) (slot_is j))
          ∙ counts_next c.args.grid.now c.loop-i.i fs (issued_in a) c.slot_of-slot.ensures.valid (omega (arith, under, size)) is,
      omega (arith, c.loop-i.invariant.1, c.raise.ensures.room),
    )
