use Rattle.std.proofs.Common.{◌≡◌, ◌∙◌, List, length, map, Some, refl, sym, ap, subst}
use Rattle.std.specs.Prelude.{slice_get}
use Rattle.std.proofs.lemmas.Bool.{ltb-true}
use Rattle.std.proofs.lemmas.Option.{slice_get_read}
use Rattle.casa_filing.specs.declared.regulation.Measure.{Measure}
use Rattle.casa_filing.specs.declared.regulation.Regulation.{Regulation}
use Rattle.casa_filing.specs.Text.{Text}
use Rattle.casa_flight.specs.State.{catalogue}
use Rattle.casa_flight.specs.Listing.{Listing, listing}
use Rattle.casa_inquiry.proofs.Listed.{listed_here, listed_later}
use Rattle.casa_inquiry.proofs.shown.ShownListsShown.list.Goals as goal

pub returns-then-eq : goal.returns-then-eq
returns-then-eq c = λ m shown.
    let k = c.loop-number.number in
    let r = c.regulation-item.result in
    let all : List Regulation = c.args.self.now.regulations.now in
    let there : slice_get all k ≡ Some r = slice_get_read all (length all) k r refl c.loop-number-test.true c.regulation-item.is in
    let own : slice_get (catalogue m) k ≡ Some r = subst (λ (rs : List Regulation). slice_get rs k ≡ Some r) shown.regulations there in
    let list : Listing = c.in_ok-list.list.now in
    let lists : List Listing = c.args.self.now.lists.now in
    let found = c.in_ok-list.ensures.lookup in
    let kept : slice_get lists k ≡ Some list =
    slice_get_read lists (length lists) k list refl (ltb-true k (length lists) (sym found.0)) found.1 in
    let listed : slice_get (map (λ (e : Text × Measure). listing m.rows e.0 e.1) m.regs) k ≡ Some list =
    subst (λ (ls : List Listing). slice_get ls k ≡ Some list) shown.lists kept in
    ap (λ (l : Listing). Some l) c.list.ensures ∙ sym listed
    ∙ sym (listed_here m.rows c.args.id.now m.regs k r own (sym c.if-eq.ensures)) ∙ c.loop-number.invariant m shown

pub loop-number-preserved : goal.loop-number-preserved
loop-number-preserved c = λ m shown.
    let k = c.loop-number.number in
    let r = c.regulation-item.result in
    let all : List Regulation = c.args.self.now.regulations.now in
    let there : slice_get all k ≡ Some r = slice_get_read all (length all) k r refl c.loop-number-test.true c.regulation-item.is in
    let own : slice_get (catalogue m) k ≡ Some r = subst (λ (rs : List Regulation). slice_get rs k ≡ Some r) shown.regulations there in
    sym (listed_later m.rows c.args.id.now m.regs k r own (sym c.if-eq.ensures)) ∙ c.loop-number.invariant m shown
