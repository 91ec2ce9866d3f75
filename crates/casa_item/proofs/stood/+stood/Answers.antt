use Rattle.std.proofs.Common.{ℕ, ◌∙◌, sym}
use Rattle.casa_item.specs.declared.item.Item.{Item}
use Rattle.casa_item.proofs.InPlace.{in_place-absent, settled}
use Rattle.casa_item.proofs.stood.+stood.Goals as goal

pub stand_in_all-returns-in_default-2 : goal.stand_in_all-returns-in_default-2
stand_in_all-returns-in_default-2 t c =
    c.in_ok-version.ensures.placed
    ∙ in_place-absent _ c.args.all.now.place.now c.args.lists.now.entries (sym c.in_ok-version.ensures.version ∙ c.in_default-2.is)

pub stand_in_all-returns : goal.stand_in_all-returns
stand_in_all-returns t c =
    let first = c.in-Some.field-0-0.now in
    rw c.in-Some.ensures.cases.0
    (settled (λ (v : ℕ × Item). v.1) (λ (v : ℕ × Item). v.0) c.args.all.now.position c.stand_in_version-done.result first.0 first.1
    c.in-Some.behind.now c.in-Some-2.version c.args.all.now.place.now c.stand_in_version-done.new.version
    c.args.lists.now.entries c.taken.new.lists.entries c.stand_in_version-done.new.lists.entries c.put_back.new.lists.entries
    (sym c.in_ok-version.ensures.version ∙ c.in-Some-2.is) c.in_ok-version.ensures.placed
    c.stand_in_version-done.ensures.version c.stand_in_version-done.ensures.lists c.put_back.ensures)
