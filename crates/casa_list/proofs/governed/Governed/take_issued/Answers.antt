use Rattle.std.proofs.Common.{◌≡◌, ◌∙◌, ◌+◌, ◌<◌, List, ap, subst, sym, not, length, drop, map, rules, arith}
use Rattle.std.specs.List.{remove}
use Rattle.std.specs.List.Sorted.{IsSortedBy}
use Rattle.casa_flight.specs.declared.comp.Comp.{Comp}
use Rattle.casa_flight.specs.Listing.{is_before}
use Rattle.casa_slots.specs.declared.standing.Standing.{Standing}
use Rattle.casa_list.specs.Governing.{Governing}
use Rattle.casa_slots.specs.Seat.{issued_in}
use Rattle.casa_list.specs.Standings.{is_flight_before, index_in}
use Rattle.casa_list.proofs.Governs.{many_behind, governs_out_behind}
use Rattle.casa_list.proofs.Mapped.{first-map, remove-map, sorted_read}
use Rattle.casa_list.proofs.Seated.{drop-out_behind}
use Rattle.casa_list.proofs.governed.Governed.take_issued.Goals as goal

pub index_of-at-requires : goal.index_of-at-requires
index_of-at-requires c = sorted_read issued_in is_flight_before c.issued.result.now (subst (IsSortedBy is_flight_before) (sym c.issued.ensures.flights) c.requires.sorted)

pub remove-requires : goal.remove-requires
remove-requires c =
    let there : c.index_of-at.result ≡ index_in c.args.self.now.issued c.args.comp.now =
    c.index_of-at.ensures.value
    ∙ sym (first-map issued_in (λ (f : Comp × Standing). not (is_before f.0 c.args.comp.now)) c.issued.result.now)
    ∙ ap (λ (fs : List (Comp × Standing)). index_in fs c.args.comp.now) c.issued.ensures.flights in
    let many = many_behind _ _ _ _ c.self.invariant c.self.view_is in
    let lt : c.self.inside.competitors + c.index_of-at.result < length c.self.inside.seats.items = omega (arith, there, many, c.requires.within) in
    search rules

pub invariant_of-self : goal.invariant_of-self
invariant_of-self c =
    let there : c.index_of-at.result ≡ index_in c.args.self.now.issued c.args.comp.now =
    c.index_of-at.ensures.value
    ∙ sym (first-map issued_in (λ (f : Comp × Standing). not (is_before f.0 c.args.comp.now)) c.issued.result.now)
    ∙ ap (λ (fs : List (Comp × Standing)). index_in fs c.args.comp.now) c.issued.ensures.flights in
    let many = many_behind _ _ _ _ c.self.invariant c.self.view_is in
    let lt : c.self.inside.competitors + c.index_of-at.result < length c.self.inside.seats.items = omega (arith, there, many, c.requires.within) in
    governs_out_behind c.self.inside.competitors c.index_of-at.result c.self.inside.seats.items _ lt c.remove.ensures.items c.self.invariant

pub returns-clause-issued : goal.returns-clause-issued
returns-clause-issued c =
    let n = c.self.inside.competitors in
    let xs = c.self.inside.seats.items in
    let at = c.index_of-at.result in
    let there : at ≡ index_in c.args.self.now.issued c.args.comp.now =
    c.index_of-at.ensures.value
    ∙ sym (first-map issued_in (λ (f : Comp × Standing). not (is_before f.0 c.args.comp.now)) c.issued.result.now)
    ∙ ap (λ (fs : List (Comp × Standing)). index_in fs c.args.comp.now) c.issued.ensures.flights in
    ap (map issued_in) (ap (drop n) c.remove.ensures.items ∙ drop-out_behind n at xs c.self.invariant.within)
    ∙ sym (remove-map issued_in (drop n xs) at)
    ∙ (λ j. remove ((ap (λ (g : Governing). g.issued) c.self.view_is) j) (there j))
