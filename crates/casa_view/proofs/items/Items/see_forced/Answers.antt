use Rattle.std.proofs.Common.{◌≡◌, ◌+◌, ◌||◌, ◌&&◌, ◌++◌, ◌∷◌, [], Bool, List, Option, take, ap, sym, ◌∙◌}
use Rattle.std.specs.Option.{option_copied}
use Rattle.std.specs.List.{list_any}
use Rattle.std.proofs.lemmas.List.{take_more, take_all}
use Rattle.casa_flight.specs.declared.row.Stance.{Stance}
use Rattle.casa_flight.specs.Listing.{Listing}
use Rattle.casa_filing.specs.Text.{Text, same_text}
use Rattle.casa_footprint.specs.Footprint.{is_forced}
use Rattle.casa_view.specs.Board.{versions}
use Rattle.casa_view.specs.Taking.{is_of, governing_at, has_forced}
use Rattle.casa_view.proofs.Noted.{sees_same, any-push}
use Rattle.casa_view.proofs.items.Items.see_forced.Goals as goal

-- whether a flight stands forced and passes a test
abbrev forced : (Text → Bool) → Text × Stance → Bool
forced test e = is_forced e.1 && test e.0

pub loop-member-preserved : goal.loop-member-preserved
loop-member-preserved g c =
    let items : List (Text × Stance) = c.flights-member-items.result.now in
    let past = take c.loop-member.member-index items in
    let item : Text × Stance = c.member-item.result in
    let more : take (c.loop-member.member-index + 1) items ≡ past ++ item ∷ [] =
    take_more items c.loop-member.member-index item c.loop-member-test.true ∙ ap (λ (e : Text × Stance). past ++ e ∷ []) (sym c.member-item.is) in
    let named : ◌≡◌ {A = Text × Stance} (c.key.result, c.stance.result) item = λ i. (c.key.ensures i, c.stance.ensures i) in
    let row : Text → Text → Bool = λ q k. same_text k q in
    let list : Text → Text → Bool = λ q k. is_of (governing_at g.V.Version.item_of (versions c.args.self.now) k) q in (
      (λ t h.
          sees_same c.args.self.now.rows.entries _ _ _
          (λ q. ap (λ (e : Text × Stance). forced (row q) e || (list_any (forced (row q)) past || t q)) named ∙ any-push (forced (row q)) past item (t q) ∙ ap (λ es. list_any (forced (row q)) es || t q) (sym more))
          (c.in_ok-see_if_forced.ensures.rows (λ q. list_any (forced (row q)) past || t q)
          (c.loop-member.invariant.0 t h))),
      (λ t h.
          sees_same c.args.self.now.lists.entries _ _ _
          (λ q. ap (λ (e : Text × Stance). forced (list q) e || (list_any (forced (list q)) past || t q)) named ∙ any-push (forced (list q)) past item (t q) ∙ ap (λ es. list_any (forced (list q)) es || t q) (sym more))
          (c.in_ok-see_if_forced.ensures.lists (λ q. list_any (forced (list q)) past || t q)
          (c.loop-member.invariant.1 t h))),
    )

pub returns-clause-rows : goal.returns-clause-rows
returns-clause-rows g c = λ t h.
    let items : List (Text × Stance) = c.flights-member-items.result.now in
    let whole : take c.loop-member.member-index items ≡ c.in-Some.list.now.flights =
    take_all c.loop-member.member-index items c.loop-member-test.false ∙ c.flights-member-items.ensures.flights in
    let test : Text → Text → Bool = λ q k. same_text k q in
    sees_same c.args.self.now.rows.entries _ _ _
    (λ q. ap (λ (es : List (Text × Stance)). list_any (forced (test q)) es || t q) whole
    ∙ ap (λ (l : Option Listing). has_forced (test q) l || t q) (sym (ap option_copied c.in-Some.is)))
    (c.loop-member.invariant.0 t h)

pub returns-clause-lists : goal.returns-clause-lists
returns-clause-lists g c = λ t h.
    let items : List (Text × Stance) = c.flights-member-items.result.now in
    let whole : take c.loop-member.member-index items ≡ c.in-Some.list.now.flights =
    take_all c.loop-member.member-index items c.loop-member-test.false ∙ c.flights-member-items.ensures.flights in
    let test : Text → Text → Bool = λ q k. is_of (governing_at g.V.Version.item_of (versions c.args.self.now) k) q in
    sees_same c.args.self.now.lists.entries _ _ _
    (λ q. ap (λ (es : List (Text × Stance)). list_any (forced (test q)) es || t q) whole
    ∙ ap (λ (l : Option Listing). has_forced (test q) l || t q) (sym (ap option_copied c.in-Some.is)))
    (c.loop-member.invariant.1 t h)
