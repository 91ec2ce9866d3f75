use Rattle.std.proofs.Common.{◌≡◌, ◌∙◌, ◌+◌, ◌<◌, ◌++◌, length, take, drop, set, rules}
use Rattle.casa_grid.specs.Slots.{slots}
use Rattle.casa_slots.specs.Walk.{low_after, place_low, walked, comps_in}
use Rattle.casa_slots.proofs.Asked.{asked_head, asked_more}
use Rattle.casa_slots.proofs.Walks.{walked_more, follow_more}
use Rattle.casa_slots.proofs.walk.walk_from.Goals as goal

pub place_anew-place-requires : goal.place_anew-place-requires
place_anew-place-requires c =
    let under : c.loop-i.i < length c.loop-i.competitors = search rules in
    λ behind. asked_head (slots c.args.grid.now) c.loop-i.i c.loop-i.competitors _ under c.index-competitors-i.is (search rules)

pub loop-i-preserved : goal.loop-i-preserved
loop-i-preserved c =
    let ws = slots c.args.grid.now in
    let bs = c.args.blocked.now.counts in
    let i = c.loop-i.i in
    let xs = c.loop-i.competitors in
    let x = c.index-competitors-i.result in
    let under : i < length xs = search rules in
    let place_is : c.place_anew-place.result ≡ place_low ws bs c.loop-i.low x.comp.eto = c.place_anew-place.ensures.value in
    let next : c.low_after-low.result ≡ low_after (length bs) c.place_anew-place.result = search rules in
    let low_is : c.low_after-low.result ≡ low_after (length bs) (place_low ws bs c.loop-i.low x.comp.eto) = next ∙ (λ j. low_after (length bs) (place_is j)) in
    let seat_is : c.new.result ≡ record { comp = x.comp; place = c.place_anew-place.result } = search rules in
    let this_is : c.new.result ≡ record { comp = x.comp; place = place_low ws bs c.loop-i.low x.comp.eto } = seat_is ∙ (λ j. record { comp = x.comp; place = place_is j }) in (
      (λ j. take (i + 1) (set xs i (this_is j)) ++ walked ws bs (low_is j) (comps_in (drop (i + 1) (set xs i (this_is j)))))
          ∙ walked_more ws bs c.loop-i.low i xs x under c.index-competitors-i.is
          ∙ c.loop-i.invariant.0,
      follow_more ws bs i xs c.new.result c.loop-i.invariant.1,
      λ behind. asked_more ws bs i xs c.new.result c.loop-i.invariant.1,
    )
