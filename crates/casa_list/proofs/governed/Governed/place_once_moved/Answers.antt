use Rattle.std.proofs.Common.{◌≡◌, ◌∙◌, ◌-◌, ◌<◌, ◌≤◌, [], List, take, drop, length, ap, sym, subst}
use Rattle.casa_grid.specs.Slots.{slots}
use Rattle.casa_flight.specs.declared.comp.Assigned.{Assigned}
use Rattle.casa_slots.specs.Blocked.{lowered}
use Rattle.casa_slots.specs.Walk.{place_low, low_behind, followed, comps_in, FollowFirst}
use Rattle.casa_slots.proofs.Walked.{follow_take}
use Rattle.casa_list.proofs.Keeping.{index_of}
use Rattle.casa_list.proofs.Moved.{before_out, behind_out}
use Rattle.casa_list.proofs.governed.Governed.place_once_moved.Goals as goal

pub returns-then-at-out : goal.returns-then-at-out
returns-then-at-out c =
    let ws = slots c.args.grid.now in
    let bs = lowered c.args.blocked.now.counts c.args.left in
    let xs : List Assigned = c.args.self.now.competitors in
    let comp = c.args.comp.now in
    let at : c.index_of-at.result ≡ index_of xs comp = rw (← c.competitors-competitors.ensures) c.index_of-at.ensures.value in
    let first : index_of xs comp ≤ c.args.out = rw (← at) c.if-at-out.true in
    c.place_once_moved.ensures
    ∙ ap (λ (zs : List Assigned). place_low ws bs (low_behind (length bs) 0 zs) comp.eto)
    ((λ j. followed ws bs (take (at j) (c.competitors-competitors.ensures j)) (comps_in []))
    ∙ sym (before_out ws bs c.args.out c.args.behind xs comp c.requires.sorted c.requires.out.0 c.requires.out.1 c.requires.within first))

pub place_once_moved-requires-2 : goal.place_once_moved-requires-2
place_once_moved-requires-2 c =
    let ws = slots c.args.grid.now in
    let bs = lowered c.args.blocked.now.counts c.args.left in
    subst (λ (xs : List Assigned). FollowFirst ws bs (take (c.index_of-at.result - c.args.behind) (drop c.args.behind xs))) (sym c.competitors-competitors.ensures)
    (follow_take ws bs (c.index_of-at.result - c.args.behind) (drop c.args.behind c.args.self.now.competitors) c.requires.follow)

pub returns : goal.returns
returns c =
    let ws = slots c.args.grid.now in
    let bs = lowered c.args.blocked.now.counts c.args.left in
    let xs : List Assigned = c.args.self.now.competitors in
    let comp = c.args.comp.now in
    let at : c.index_of-at.result ≡ index_of xs comp = rw (← c.competitors-competitors.ensures) c.index_of-at.ensures.value in
    let later : c.args.out < index_of xs comp = rw (← at) c.if-at-out.false in
    c.place_once_moved-2.ensures
    ∙ ap (λ (zs : List Assigned). place_low ws bs (low_behind (length bs) 0 zs) comp.eto)
    ((λ j. followed ws bs (take c.args.out (c.competitors-competitors.ensures j)) (comps_in (take (at j - c.args.behind) (drop c.args.behind (c.competitors-competitors.ensures j)))))
    ∙ sym (behind_out ws bs c.args.out c.args.behind xs comp c.requires.sorted c.requires.out.0 c.requires.out.1 c.requires.within later))
