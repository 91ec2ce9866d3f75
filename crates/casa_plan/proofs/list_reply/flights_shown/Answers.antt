use Rattle.std.proofs.Common.{Vec, ◌≡◌, ◌∙◌, ◌+◌, ◌<◌, ◌++◌, ◌∷◌, [], ℕ, List, length, map, take, Some, ap, sym, rules}
use Rattle.std.specs.Option.{is_some}
use Rattle.std.specs.Global.{Global}
use Rattle.std.specs.List.{filter_map, slice_get}
use Rattle.std.proofs.lemmas.Option.{get_or_from_slice_get, slice_get-get_or, slice_get_within}
use Rattle.std.proofs.lemmas.List.{map-append, take_all, take_more}
use Rattle.casa_flight.specs.declared.comp.Comp.{Comp}
use Rattle.casa_filing.specs.Text.{Text}
use Rattle.casa_flight.specs.declared.reply.ListRow.{ListRow}
use Rattle.casa_flight.specs.declared.row.Stance.{Stance}
use Rattle.casa_flight.specs.declared.row.Stance.TheVariants.{Forced}
use Rattle.casa_slots.specs.declared.standing.Standing.{Standing}
use Rattle.casa_slots.specs.declared.standing.Standing.TheVariants.{Forced as NoSlot}
use Rattle.casa_list.specs.Standings.{standings, count_governed, forced_flight}
use Rattle.casa_plan.specs.Rows.{row_as}
use Rattle.casa_plan.proofs.Members.{governed_within, told_more, told_same}
use Rattle.casa_plan.proofs.list_reply.flights_shown.Goals as goal
use Rattle.casa_plan.proofs.list_reply.flights_shown.Goals.{in-Forced+in_ok-row-2+in_ok-push-2, in_default}

pub unwrap-comp-requires : goal.unwrap-comp-requires
unwrap-comp-requires g c =
    let list = c.args.list.now in
    let within : c.loop-n.n < length (standings list) = governed_within list c.loop-n.n (search rules) in
    let there = slice_get-get_or (standings list) c.loop-n.n (record { eto = 0; key = [] }, NoSlot) within in
    ap is_some (c.nth.ensures.flight ∙ there)

pub loop-n-preserved : goal.loop-n-preserved
loop-n-preserved g c =
    let list = c.args.list.now in
    let n : ℕ = c.loop-n.n in
    let fs : List (Comp × Standing) = standings list in
    let f : Comp × Standing = c.unwrap-comp.result in
    let row : Comp × Standing → ListRow = λ f. row_as c.args.view.now list f.0 f.1 in
    let found : slice_get fs n ≡ Some f = sym c.nth.ensures.flight ∙ c.unwrap-comp.ensures in
    let next : take (n + 1) fs ≡ take n fs ++ f ∷ [] =
    take_more fs n f (slice_get_within fs n f found) ∙ ap (λ g. take n fs ++ g ∷ []) (get_or_from_slice_get fs n f f found) in
    c.in_ok-push.ensures.items ∙ (λ i. c.loop-n.invariant i ++ c.in_ok-row.ensures i ∷ [])
    ∙ sym (ap (map row) next ∙ map-append row (take n fs) (f ∷ []))

pub loop-member-preserved : goal.loop-member-preserved
loop-member-preserved g c =
    let list = c.args.list.now in
    let row : Comp × Standing → ListRow = λ f. row_as c.args.view.now list f.0 f.1 in
    let front : List (Comp × Standing) = take (count_governed list) (standings list) in
    let es = c.flights-member-items.result.now in
    let i = c.loop-member.member-index in
    let e = c.member-item.result in
    elim c.match-stance.branch [
      | in-Forced+in_ok-row-2+in_ok-push-2 w ↦
          let flight : Comp × Standing = (record { eto = w.in-Forced.eto; key = w.key-key.result }, NoSlot) in
          let found : forced_flight e.0 e.1 ≡ Some flight =
          ap (forced_flight e.0) (sym c.stance.ensures ∙ w.in-Forced.is) ∙ ap (λ k. forced_flight k (Forced w.in-Forced.eto)) (sym w.key-key.ensures) in
          told_more row front es i e flight c.loop-member.rows.items c.match-stance.rows.items c.loop-member-test.true c.member-item.is found
          (ap (λ (v : Vec ListRow Global). v.items) w.rows-is ∙ w.in_ok-push-2.ensures.items ∙ ap (λ r. c.loop-member.rows.items ++ r ∷ []) w.in_ok-row-2.ensures) c.loop-member.invariant
      | in_default w ↦
          told_same row front es i e c.loop-member.rows.items c.match-stance.rows.items c.loop-member-test.true c.member-item.is
          (λ eto is. w.in_default.not-Forced eto (c.stance.ensures ∙ is)) (ap (λ (v : Vec ListRow Global). v.items) w.rows-is) c.loop-member.invariant
    ]

pub returns-clause-rows : goal.returns-clause-rows
returns-clause-rows g c =
    let list = c.args.list.now in
    let row : Comp × Standing → ListRow = λ f. row_as c.args.view.now list f.0 f.1 in
    let front : List (Comp × Standing) = take (count_governed list) (standings list) in
    let es = c.flights-member-items.result.now in
    c.loop-member.invariant
    ∙ ap (λ fs. map row (front ++ filter_map (λ (e : Text × Stance). forced_flight e.0 e.1) fs)) (take_all c.loop-member.member-index es c.loop-member-test.false ∙ c.flights-member-items.ensures.flights)
