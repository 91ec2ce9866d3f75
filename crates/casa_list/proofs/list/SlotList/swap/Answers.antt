use Rattle.std.proofs.Common.{◌≡◌, ◌∙◌, Some, is_some, ap, subst, sym}
use Rattle.std.specs.List.Sorted.{IsSortedBy}
use Rattle.casa_flight.specs.declared.comp.Comp.{Comp}
use Rattle.casa_flight.specs.declared.row.Stance.TheVariants.{Issued}
use Rattle.casa_filing.specs.Text.{put}
use Rattle.casa_flight.specs.Listing.{Listing, places}
use Rattle.casa_list.specs.Standings.{is_flight_before}
use Rattle.casa_list.proofs.Keeping.{stands}
use Rattle.casa_list.proofs.Exchanging.{may_exchange, reissued, set_issued, kept_reissued, mate_there, exchange_moves_nobody, kept_exchanged}
use Rattle.casa_list.proofs.Holding.{issued_within}
use Rattle.casa_list.proofs.Searched.{sorted_issued}
use Rattle.casa_list.proofs.list.SlotList.swap.Goals as goal

pub write_issued-requires-2 : goal.write_issued-requires-2
write_issued-requires-2 c =
    let l : Listing = record { profile = c.self.inside.grid; flights = c.self.inside.flights } in
    let comp : Comp = record { eto = c.in-Some.one.eto; key = c.args.key.now } in
    let mate : Comp = record { eto = c.in-Some-issued_at.two.eto; key = c.args.other.now } in
    let here = stands l _ comp.key (Some (Issued comp.eto c.in-Some.one.cto)) c.self.view_is c.in-Some.ensures.found in
    let there = stands l _ mate.key (Some (Issued mate.eto c.in-Some-issued_at.two.cto)) c.self.view_is c.in-Some-issued_at.ensures.found in
    rw c.write_issued.ensures (ap is_some (mate_there l comp mate c.in-Some.one.cto c.in-Some-issued_at.two.cto here there))

pub reissue-requires-clause-within : goal.reissue-requires-clause-within
reissue-requires-clause-within c =
    let comp : Comp = record { eto = c.in-Some.one.eto; key = c.args.key.now } in
    let here = stands _ _ comp.key (Some (Issued comp.eto c.in-Some.one.cto)) c.self.view_is c.in-Some.ensures.found in
    issued_within comp c.in-Some.one.cto c.self.invariant here

pub reissue-requires-clause-sorted : goal.reissue-requires-clause-sorted
reissue-requires-clause-sorted c = sorted_issued c.self.invariant

pub reissue-requires-2-clause-within : goal.reissue-requires-2-clause-within
reissue-requires-2-clause-within c =
    let l : Listing = record { profile = c.self.inside.grid; flights = c.self.inside.flights } in
    let comp : Comp = record { eto = c.in-Some.one.eto; key = c.args.key.now } in
    let mate : Comp = record { eto = c.in-Some-issued_at.two.eto; key = c.args.other.now } in
    let cto = c.in-Some.one.cto in
    let time = c.in-Some-issued_at.two.cto in
    let here = stands l _ comp.key (Some (Issued comp.eto cto)) c.self.view_is c.in-Some.ensures.found in
    let there = stands l _ mate.key (Some (Issued mate.eto time)) c.self.view_is c.in-Some-issued_at.ensures.found in
    rw c.reissue.ensures.issued (issued_within mate time (kept_reissued comp cto time c.self.invariant here) (mate_there l comp mate cto time here there))

pub reissue-requires-2-clause-sorted : goal.reissue-requires-2-clause-sorted
reissue-requires-2-clause-sorted c =
    let l : Listing = record { profile = c.self.inside.grid; flights = c.self.inside.flights } in
    let comp : Comp = record { eto = c.in-Some.one.eto; key = c.args.key.now } in
    let here = stands l _ comp.key (Some (Issued comp.eto c.in-Some.one.cto)) c.self.view_is c.in-Some.ensures.found in
    subst (IsSortedBy is_flight_before) (sym c.reissue.ensures.issued) (sorted_issued (kept_reissued comp c.in-Some.one.cto c.in-Some-issued_at.two.cto c.self.invariant here))

pub invariant_of-self : goal.invariant_of-self
invariant_of-self c =
    let l : Listing = record { profile = c.self.inside.grid; flights = c.self.inside.flights } in
    let comp : Comp = record { eto = c.in-Some.one.eto; key = c.args.key.now } in
    let mate : Comp = record { eto = c.in-Some-issued_at.two.eto; key = c.args.other.now } in
    let cto = c.in-Some.one.cto in
    let time = c.in-Some-issued_at.two.cto in
    let here = stands l _ comp.key (Some (Issued comp.eto cto)) c.self.view_is c.in-Some.ensures.found in
    let there = stands l _ mate.key (Some (Issued mate.eto time)) c.self.view_is c.in-Some-issued_at.ensures.found in
    let written : c.write_issued-2.new.flights ≡ (reissued (reissued l comp time) mate cto).flights =
    c.write_issued-2.ensures ∙ ap (λ es. put es mate.key (Issued mate.eto cto)) c.write_issued.ensures in
    let row : c.reissue-2.new.self.issued ≡ set_issued (set_issued c.self.inside.governed.issued comp time) mate cto =
    c.reissue-2.ensures.issued ∙ ap (λ fs. set_issued fs mate cto) c.reissue.ensures.issued in
    rw (written, row, c.reissue-2.ensures.competitors, c.reissue.ensures.competitors)
    (kept_exchanged comp mate cto time c.self.invariant here there)

pub returns-clause-nobody_moves : goal.returns-clause-nobody_moves
returns-clause-nobody_moves c =
    let l : Listing = record { profile = c.self.inside.grid; flights = c.self.inside.flights } in
    let comp : Comp = record { eto = c.in-Some.one.eto; key = c.args.key.now } in
    let mate : Comp = record { eto = c.in-Some-issued_at.two.eto; key = c.args.other.now } in
    let cto = c.in-Some.one.cto in
    let time = c.in-Some-issued_at.two.cto in
    let here = stands l _ comp.key (Some (Issued comp.eto cto)) c.self.view_is c.in-Some.ensures.found in
    let there = stands l _ mate.key (Some (Issued mate.eto time)) c.self.view_is c.in-Some-issued_at.ensures.found in
    let written : c.write_issued-2.new.flights ≡ (reissued (reissued l comp time) mate cto).flights =
    c.write_issued-2.ensures ∙ ap (λ es. put es mate.key (Issued mate.eto cto)) c.write_issued.ensures in
    ap (λ es. places (record l { flights = es })) written
    ∙ exchange_moves_nobody comp mate cto time c.self.invariant here there
    ∙ ap places c.self.view_is

pub returns-clause-answer : goal.returns-clause-answer
returns-clause-answer c =
    sym (may_exchange c.args.self.now c.args.key.now c.args.other.now c.in-Some.one c.in-Some-issued_at.two
    (sym c.issued_at.ensures.value ∙ c.in-Some.is) (sym c.issued_at-2.ensures.value ∙ c.in-Some-issued_at.is)
    (sym c.lt.ensures ∙ c.if-lt.false) (sym c.lt-else-lt.ensures ∙ c.if-lt-2.false))
