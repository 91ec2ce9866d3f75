use Rattle.std.proofs.Common.{◌≡◌, ◌∙◌, ◌+◌, ◌≤◌, List, ap, subst, sym, not, length, drop, map, rules, arith}
use Rattle.std.specs.List.{insert}
use Rattle.std.specs.List.Sorted.{IsSortedBy}
use Rattle.std.proofs.lemmas.List.{length-map}
use Rattle.casa_flight.specs.declared.comp.Comp.{Comp}
use Rattle.casa_flight.specs.Listing.{is_before}
use Rattle.casa_slots.specs.declared.standing.Standing.{Standing}
use Rattle.casa_list.specs.Governing.{Governing}
use Rattle.casa_slots.specs.Seat.{issued_in}
use Rattle.casa_list.specs.Standings.{is_flight_before, index_in}
use Rattle.casa_list.proofs.Governs.{many_behind, governs_put_behind}
use Rattle.casa_list.proofs.Mapped.{first-map, insert-map, sorted_read}
use Rattle.casa_list.proofs.Seated.{drop-put_behind}
use Rattle.casa_list.proofs.governed.Governed.put_issued.Goals as goal

pub index_of-at-requires : goal.index_of-at-requires
index_of-at-requires c = sorted_read issued_in is_flight_before c.issued.result.now (subst (IsSortedBy is_flight_before) (sym c.issued.ensures.flights) c.requires.sorted)

pub invariant_of-self : goal.invariant_of-self
invariant_of-self c =
    let size : length (map issued_in c.issued.result.now) ≡ length c.issued.result.now = length-map c.issued.result.now issued_in in
    let same : length (map issued_in c.issued.result.now) ≡ length c.args.self.now.issued = ap length c.issued.ensures.flights in
    let many = many_behind _ _ _ _ c.self.invariant c.self.view_is in
    let le : c.self.inside.competitors + c.index_of-at.result ≤ length c.self.inside.seats.items = omega (arith, size, same, many, c.index_of-at.ensures.within) in
    governs_put_behind c.self.inside.competitors c.index_of-at.result c.self.inside.seats.items _ c.held.result le c.held.ensures.time (search rules) c.self.invariant

pub returns-clause-issued : goal.returns-clause-issued
returns-clause-issued c =
    let n = c.self.inside.competitors in
    let xs = c.self.inside.seats.items in
    let at = c.index_of-at.result in
    let put : c.insert.new.self.items ≡ insert xs (n + at) c.held.result = search rules in
    let there : at ≡ index_in c.args.self.now.issued c.args.comp =
    c.index_of-at.ensures.value
    ∙ sym (first-map issued_in (λ (f : Comp × Standing). not (is_before f.0 c.args.comp)) c.issued.result.now)
    ∙ ap (λ (fs : List (Comp × Standing)). index_in fs c.args.comp) c.issued.ensures.flights in
    ap (map issued_in) (ap (drop n) put ∙ drop-put_behind n at xs c.held.result c.self.invariant.within)
    ∙ sym (insert-map issued_in (drop n xs) at c.held.result)
    ∙ (λ j. insert ((ap (λ (g : Governing). g.issued) c.self.view_is) j) (there j) (c.held.ensures.issued j))
