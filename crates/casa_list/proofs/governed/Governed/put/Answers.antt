use Rattle.std.proofs.Common.{◌≡◌, ◌∙◌, length, take, ap, rules}
use Rattle.std.specs.List.{insert}
use Rattle.casa_grid.specs.declared.slot.Place.{Place}
use Rattle.casa_grid.specs.Slots.{slots}
use Rattle.casa_slots.specs.Walk.{place_low, low_behind}
use Rattle.casa_slots.proofs.Walks.{walked_put, follow_put}
use Rattle.casa_list.proofs.governed.Governed.put.Goals as goal

pub walk_on-requires-clause-follow : goal.walk_on-requires-clause-follow
walk_on-requires-clause-follow c =
    follow_put (slots c.args.grid.now) c.args.blocked.now.counts c.args.at c.args.self.now.competitors c.insert.new.self.competitors _ c.requires.within c.insert.ensures.competitors c.requires.follow

pub returns-clause-competitors : goal.returns-clause-competitors
returns-clause-competitors c =
    let xs = c.args.self.now.competitors in
    let put : c.insert.new.self.competitors ≡ insert xs c.args.at (record { comp = c.args.comp; place = c.place_behind-place.result }) = search rules in
    let place_is : c.place_behind-place.result ≡ place_low (slots c.args.grid.now) c.args.blocked.now.counts (low_behind (length c.args.blocked.now.counts) 0 (take c.args.at xs)) c.args.comp.eto = search rules in
    walked_put (slots c.args.grid.now) c.args.blocked.now.counts c.args.at xs c.insert.new.self.competitors c.walk_on.new.self.competitors c.args.comp c.requires.within
    (put ∙ ap (λ (p : Place). insert xs c.args.at (record { comp = c.args.comp; place = p })) place_is)
    c.walk_on.ensures.competitors
