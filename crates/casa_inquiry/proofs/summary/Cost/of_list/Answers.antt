use Rattle.std.proofs.Common.{◌≡◌, ℕ, ◌+◌, ◌^◌, List, [], ◌∷◌, ◌++◌, length, map, take, Some, sym, ap, subst, ◌∙◌, arith}
use Rattle.std.specs.List.{All}
use Rattle.std.proofs.lemmas.List.{map-append, take_all, take_more}
use Rattle.std.proofs.lemmas.List.Elements.{All-from_recursion, All-get_or}
use Rattle.casa_filing.specs.Text.{Text}
use Rattle.casa_filing.proofs.Entries.{each_found}
use Rattle.casa_flight.specs.declared.reply.ListRow.{ListRow}
use Rattle.casa_flight.specs.declared.row.Stance.{Stance}
use Rattle.casa_flight.specs.Listing.{stance_of}
use Rattle.casa_grid.specs.Slots.{slots}
use Rattle.casa_inquiry.specs.Summary.{AreAtMost, cost, row_told, with_flight}
use Rattle.casa_inquiry.proofs.Costs.{cost-more, cost-told, few-more}
use Rattle.casa_inquiry.proofs.summary.Cost.of_list.Goals as goal

pub governed_in-requires : goal.governed_in-requires
governed_in-requires c =
    let list = c.args.list.now in
    let flights = c.flights-member-items.result.now in
    let stands : Text × Stance → Type 0 = λ e. stance_of list e.0 ≡ Some e.1 in
    let each : All stands flights =
    subst (All stands) (sym c.flights-member-items.ensures.flights)
    (All-from_recursion stands list.flights (each_found list.flights c.flights-member-items.ensures.keys)) in
    subst stands (sym c.member-item.is)
    (All-get_or stands flights c.loop-member.member-index c.member-item.result c.loop-member-test.true each)

pub loop-member-preserved : goal.loop-member-preserved
loop-member-preserved c =
    let list = c.args.list.now in
    let flights = c.flights-member-items.result.now in
    let i = c.loop-member.member-index in
    let count = length (slots list.profile) in
    let member = c.member-item.result in
    let before : List ListRow = map (row_told list) (take i flights) in
    let next : take (i + 1) flights ≡ take i flights ++ member ∷ [] =
    take_more flights i member c.loop-member-test.true ∙ ap (λ (e : Text × Stance). take i flights ++ e ∷ []) (sym c.member-item.is) in
    let rows : map (row_told list) (take (i + 1) flights) ≡ before ++ row_told list member ∷ [] =
    ap (map (row_told list)) next ∙ map-append (row_told list) (take i flights) (member ∷ []) in
    let one_more : 2 ^ 64 + i + 1 ≡ 2 ^ 64 + (i + 1) = omega arith in
    let more : AreAtMost (2 ^ 64 + (i + 1)) (with_flight c.loop-member.cost c.governed_in.result) =
    subst (λ (most : ℕ). AreAtMost most (with_flight c.loop-member.cost c.governed_in.result)) one_more
    (few-more (2 ^ 64 + i) c.loop-member.cost c.governed_in.result c.loop-member.invariant.few) in
    record {
      so_far =
          c.add.ensures.added
          ∙ (λ j. with_flight (c.loop-member.invariant.so_far j) (c.governed_in.ensures j))
          ∙ sym (cost-more count before (row_told list member)) ∙ ap (cost count) (sym rows);
      few = subst (AreAtMost (2 ^ 64 + (i + 1))) (sym c.add.ensures.added) more;
      short = omega (arith, c.add.ensures.short, c.loop-member.invariant.short);
    }

pub returns : goal.returns
returns c = λ m r.
    let list = c.args.list.now in
    let flights = c.flights-member-items.result.now in
    let all : take c.loop-member.member-index flights ≡ list.flights =
    take_all c.loop-member.member-index flights c.loop-member-test.false ∙ c.flights-member-items.ensures.flights in
    c.loop-member.invariant.so_far ∙ ap (λ (es : List (Text × Stance)). cost (length (slots list.profile)) (map (row_told list) es)) all
    ∙ cost-told (length (slots list.profile)) m list
