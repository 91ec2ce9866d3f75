use Rattle.std.proofs.Common.{rules, ◌≡◌, Some, None, sym, ap, ◌∙◌, subst}
use Rattle.casa_filing.specs.Text.{at_name, put}
use Rattle.casa_flight.specs.Good.{AreInOrder}
use Rattle.casa_filing.proofs.Entries.{at-put_same, sorted-put}
use Rattle.casa_table.proofs.Layers.{where-put, put-there}
use Rattle.casa_table.proofs.table.Base.put.Goals as goal

-- where the index refuses, the value that stands there is left
pub invariant_of-self : goal.invariant_of-self
invariant_of-self g c =
    let es = c.self.inside.values.entries in
    let there : at_name es c.args.name ≡ Some c.into_mut-place.result.now = search rules in
    let left : c.in_err-note-in-Ok-Occupied.self-in-Break-1-own.given.0.entries ≡ put es c.args.name c.into_mut-place.result.now = search rules in
    let same = left ∙ put-there c.args.name c.into_mut-place.result.now es c.self.invariant.0 there in (
      subst AreInOrder (sym same) c.self.invariant.0,
      subst (λ fs. g.I.Index.covers c.note.new.self (at_name fs)) (sym same)
          (c.note.ensures.stays (at_name es) c.self.invariant.1),
    )

pub returns-in_err-note-in-Ok-Occupied-clause-unchanged :
    goal.returns-in_err-note-in-Ok-Occupied-clause-unchanged
returns-in_err-note-in-Ok-Occupied-clause-unchanged g c =
    let es = c.self.inside.values.entries in
    let there : at_name es c.args.name ≡ Some c.into_mut-place.result.now = search rules in
    let left : c.in_err-note-in-Ok-Occupied.self-in-Break-1-own.given.0.entries ≡ put es c.args.name c.into_mut-place.result.now = search rules in
    let same : c.in_err-note-in-Ok-Occupied.self-in-Break-1-own.given.0.entries ≡ c.args.self.now =
    left ∙ put-there c.args.name c.into_mut-place.result.now es c.self.invariant.0 there ∙ c.self.view_is in
    search rules

pub invariant_of-self-in-Ok-Occupied : goal.invariant_of-self-in-Ok-Occupied
invariant_of-self-in-Ok-Occupied g c =
    let es = c.self.inside.values.entries in
    let there : at_name es c.args.name ≡ Some c.into_mut-place.result.now = search rules in
    let now = c.self-in-Ok-Occupied-2-1.given.0.entries in
    let is : now ≡ put es c.args.name c.args.value = search rules in
    let noted =
    where-put (λ at. g.I.Index.covers c.note.new.self at) c.args.name (Some c.args.value) es now c.self.invariant.0 is
    (c.in_ok-note-in-Ok-Occupied.ensures.noted (at_name es) there c.self.invariant.1) in (
      subst AreInOrder (sym is) (sorted-put c.args.name c.args.value es c.self.invariant.0),
      c.forget.ensures (at_name now) (ap (λ fs. at_name fs c.args.name) is ∙ at-put_same c.args.name c.args.value es) noted,
    )

pub invariant_of-self-in_ok-note-in-Ok-Vacant-2 : goal.invariant_of-self-in_ok-note-in-Ok-Vacant-2
invariant_of-self-in_ok-note-in-Ok-Vacant-2 g c =
    let es = c.self.inside.values.entries in
    let none : at_name es c.args.name ≡ None = search rules in
    let now = c.self-in-Ok-Vacant-2-1.given.0.entries in
    let is : now ≡ put es c.args.name c.args.value = search rules in
    let noted =
    where-put (λ at. g.I.Index.covers c.note-in-Ok-Vacant.new.self at) c.args.name (Some c.args.value) es now c.self.invariant.0 is
    (c.in_ok-note-in-Ok-Vacant.ensures.noted (at_name es) (search rules) c.self.invariant.1) in
    (subst AreInOrder (sym is) (sorted-put c.args.name c.args.value es c.self.invariant.0), noted)
