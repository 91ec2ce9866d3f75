use Rattle.std.proofs.Common.{List, [], ◌++◌, length, Option, take, refl, sym, ap, ◌∙◌}
use Rattle.std.specs.List.{slice_get, cons_option}
use Rattle.std.specs.Option.{option_copied}
use Rattle.std.proofs.lemmas.Option.{slice_get_read}
use Rattle.casa_filing.specs.declared.regulation.Regulation.{Regulation}
use Rattle.casa_flight.specs.Listing.{Listing}
use Rattle.casa_footprint.specs.Stamps.{state_after}
use Rattle.casa_engine.specs.Delays.{lists_in}
use Rattle.casa_engine.proofs.Listed.{nth_list, take_next}
use Rattle.casa_engine.proofs.lists.shared_lists.Goals as goal

pub loop-regulation-preserved : goal.loop-regulation-preserved
loop-regulation-preserved g c history stands =
    let lists = lists_in (state_after history) in
    let i = c.loop-regulation.regulation-index in
    let r = c.regulation-item.result in
    let there = slice_get_read c.catalogue-regulations.result.now (length c.catalogue-regulations.result.now) i r refl c.loop-regulation-test.true c.regulation-item.is in
    let kept = ap (λ (rs : List Regulation). slice_get rs i) (sym c.catalogue-regulations.ensures) ∙ there in
    let next = nth_list stands i r kept ∙ sym c.shared_list.ensures in
    let more : List Listing → Option Listing → List Listing = λ ls o. ls ++ cons_option o [] in
    c.in_ok-push_shared.ensures ∙ ap (λ (ls : List Listing). more ls (option_copied c.shared_list.result)) (c.loop-regulation.invariant history stands)
    ∙ ap (more (take i lists)) (sym next) ∙ sym (take_next lists i)
