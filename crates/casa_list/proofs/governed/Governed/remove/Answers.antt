use Rattle.std.proofs.Common.{◌≡◌, ◌∙◌, ◌-◌, ◌<◌, ap, sym, get_or, take, drop, map, arith}
use Rattle.std.specs.List.{remove, slice_get}
use Rattle.std.proofs.lemmas.List.{get_or-take, length-take-le}
use Rattle.std.proofs.lemmas.Option.{slice_get_read}
use Rattle.casa_list.specs.Governing.{Governing}
use Rattle.casa_slots.specs.Seat.{issued_in}
use Rattle.casa_list.proofs.Governs.{many_first, governs_out}
use Rattle.casa_list.proofs.Seated.{take-out_front, drop-out_front}
use Rattle.casa_list.proofs.governed.Governed.remove.Goals as goal

pub invariant_of-self : goal.invariant_of-self
invariant_of-self c =
    let n = c.self.inside.competitors in
    let many = many_first _ _ _ _ c.self.invariant c.self.view_is in
    let under : c.args.at < n = omega (arith, many, c.requires) in
    governs_out (n - 1) n c.args.at c.self.inside.seats.items _ (omega (arith, under)) under c.remove-seat.ensures.items c.self.invariant

pub returns-clause-seat : goal.returns-clause-seat
returns-clause-seat c =
    let n = c.self.inside.competitors in
    let xs = c.self.inside.seats.items in
    let a = c.remove-seat.result in
    let many = many_first _ _ _ _ c.self.invariant c.self.view_is in
    let under : c.args.at < n = omega (arith, many, c.requires) in
    let here : a ≡ get_or (take n xs) c.args.at a = c.remove-seat.ensures.value ∙ sym (get_or-take n xs c.args.at a under) in
    ap (λ (g : Governing). slice_get g.competitors c.args.at) (sym c.self.view_is)
    ∙ slice_get_read (take n xs) n c.args.at a (sym (length-take-le n xs c.self.invariant.within)) under here

pub returns-clause-competitors : goal.returns-clause-competitors
returns-clause-competitors c =
    let n = c.self.inside.competitors in
    let xs = c.self.inside.seats.items in
    let many = many_first _ _ _ _ c.self.invariant c.self.view_is in
    let under : c.args.at < n = omega (arith, many, c.requires) in
    ap (take (n - 1)) c.remove-seat.ensures.items
    ∙ take-out_front (n - 1) n c.args.at xs (omega (arith, under)) under c.self.invariant.within
    ∙ ap (λ (g : Governing). remove g.competitors c.args.at) c.self.view_is

pub returns-clause-issued : goal.returns-clause-issued
returns-clause-issued c =
    let n = c.self.inside.competitors in
    let xs = c.self.inside.seats.items in
    let many = many_first _ _ _ _ c.self.invariant c.self.view_is in
    let under : c.args.at < n = omega (arith, many, c.requires) in
    ap (map issued_in) (ap (drop (n - 1)) c.remove-seat.ensures.items ∙ drop-out_front (n - 1) n c.args.at xs (omega (arith, under)) under c.self.invariant.within)
    ∙ ap (λ (g : Governing). g.issued) c.self.view_is
