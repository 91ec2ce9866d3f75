use Rattle.std.proofs.Common.{◌≡◌, ◌∙◌, ◌+◌, take, drop, ap, subst, sym}
use Rattle.casa_grid.specs.Slots.{slots}
use Rattle.casa_slots.specs.Walk.{FollowFirst, followed, comps_in}
use Rattle.casa_list.proofs.Seated.{taken_front, taken_rest}
use Rattle.casa_list.proofs.governed.Governed.take.Goals as goal

pub walk_on-requires-clause-follow : goal.walk_on-requires-clause-follow
walk_on-requires-clause-follow c =
    subst (FollowFirst (slots c.args.grid.now) c.args.blocked.now.counts)
    (sym (ap (drop c.args.at) c.remove-seat.ensures.competitors ∙ taken_rest c.args.at c.args.self.now.competitors c.requires.within))
    c.requires.follow

pub returns-clause-competitors : goal.returns-clause-competitors
returns-clause-competitors c =
    let front : take c.args.at c.remove-seat.new.self.competitors ≡ take c.args.at c.args.self.now.competitors =
    ap (take c.args.at) c.remove-seat.ensures.competitors ∙ taken_front c.args.at c.args.self.now.competitors c.requires.within in
    let rest : drop c.args.at c.remove-seat.new.self.competitors ≡ drop (c.args.at + 1) c.args.self.now.competitors =
    ap (drop c.args.at) c.remove-seat.ensures.competitors ∙ taken_rest c.args.at c.args.self.now.competitors c.requires.within in
    c.walk_on.ensures.competitors ∙ (λ j. followed (slots c.args.grid.now) c.args.blocked.now.counts (front j) (comps_in (rest j)))
