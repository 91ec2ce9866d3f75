use Rattle.std.proofs.Common.{◌≡◌, ◌∙◌, ◌+◌, ◌≤◌, refl, ap, take, drop, map, rules, arith}
use Rattle.std.specs.List.{insert}
use Rattle.casa_list.specs.Governing.{Governing}
use Rattle.casa_slots.specs.Seat.{issued_in}
use Rattle.casa_list.proofs.Governs.{many_first, governs_put}
use Rattle.casa_list.proofs.Seated.{take-put_front, drop-put_front}
use Rattle.casa_list.proofs.governed.Governed.insert.Goals as goal

pub invariant_of-self : goal.invariant_of-self
invariant_of-self c =
    let many = many_first _ _ _ _ c.self.invariant c.self.view_is in
    let within : c.args.at ≤ c.self.inside.competitors = omega (arith, many, c.requires.within) in
    governs_put c.self.inside.competitors c.args.at c.self.inside.seats.items _ c.args.seat within (search rules) c.self.invariant

pub returns-clause-competitors : goal.returns-clause-competitors
returns-clause-competitors c =
    let n = c.self.inside.competitors in
    let xs = c.self.inside.seats.items in
    let many = many_first _ _ _ _ c.self.invariant c.self.view_is in
    let within : c.args.at ≤ n = omega (arith, many, c.requires.within) in
    let put : c.insert.new.self.items ≡ insert xs c.args.at c.args.seat = search rules in
    ap (take (n + 1)) put
    ∙ take-put_front (n + 1) n c.args.at xs c.args.seat refl within c.self.invariant.within
    ∙ ap (λ (g : Governing). insert g.competitors c.args.at c.args.seat) c.self.view_is

pub returns-clause-issued : goal.returns-clause-issued
returns-clause-issued c =
    let n = c.self.inside.competitors in
    let xs = c.self.inside.seats.items in
    let many = many_first _ _ _ _ c.self.invariant c.self.view_is in
    let within : c.args.at ≤ n = omega (arith, many, c.requires.within) in
    let put : c.insert.new.self.items ≡ insert xs c.args.at c.args.seat = search rules in
    ap (map issued_in) (ap (drop (n + 1)) put ∙ drop-put_front (n + 1) n c.args.at xs c.args.seat refl within c.self.invariant.within)
    ∙ ap (λ (g : Governing). g.issued) c.self.view_is
