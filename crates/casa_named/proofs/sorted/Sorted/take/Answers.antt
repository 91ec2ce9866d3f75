use Rattle.std.proofs.Common.{◌≡◌, ◌∙◌, ◌<◌, Some, ap, refl, sym, subst, length, rules}
use Rattle.std.specs.Ordering.{is_eq}
use Rattle.std.specs.List.{slice_get}
use Rattle.std.proofs.lemmas.Option.{slice_get_read}
use Rattle.casa_filing.specs.Text.{at_name, without}
use Rattle.casa_flight.specs.Good.{AreInOrder}
use Rattle.casa_filing.proofs.Entries.{text_cmp, sorted-remove}
use Rattle.casa_laws.proofs.Kept.{without_absent}
use Rattle.casa_list.proofs.Keyed.{hit_within, hit_removed, hit_value, missing}
use Rattle.casa_named.proofs.sorted.Sorted.take.Goals as goal

pub remove-requires : goal.remove-requires
remove-requires g c =
    let found = rw (← c.self.view_is) at c.in-Ok.ensures.place in
    let within : c.in-Ok.at < length c.self.inside.entries.items = hit_within _ _ _ c.self.invariant found in
    search rules

pub invariant_of-self : goal.invariant_of-self
invariant_of-self g c =
    let es = c.self.inside.entries.items in
    let found = rw (← c.self.view_is) at c.in-Ok.ensures.place in
    subst AreInOrder (sym (c.remove.ensures.items ∙ hit_removed es _ _ c.self.invariant found)) (sorted-remove (λ q. is_eq (text_cmp c.args.name.now q)) es c.self.invariant)

pub returns-in-Ok-clause-value : goal.returns-in-Ok-clause-value
returns-in-Ok-clause-value g c =
    let es = c.self.inside.entries.items in
    let found = rw (← c.self.view_is) at c.in-Ok.ensures.place in
    let within : c.in-Ok.at < length es = hit_within _ _ _ c.self.invariant found in
    let here : slice_get es c.in-Ok.at ≡ Some c.remove.result = slice_get_read es (length es) c.in-Ok.at c.remove.result refl within c.remove.ensures.value in
    hit_value es _ _ c.self.invariant _ here found ∙ ap (λ fs. at_name fs c.args.name.now) c.self.view_is

pub returns-in-Ok-clause-left : goal.returns-in-Ok-clause-left
returns-in-Ok-clause-left g c =
    let es = c.self.inside.entries.items in
    let found = rw (← c.self.view_is) at c.in-Ok.ensures.place in
    c.remove.ensures.items ∙ hit_removed es _ _ c.self.invariant found ∙ ap (λ fs. without fs c.args.name.now) c.self.view_is

pub returns-in-Err-clause-left : goal.returns-in-Err-clause-left
returns-in-Err-clause-left g c = sym (without_absent c.args.name.now c.args.self.now (missing c.args.self.now c.args.name.now _ (sym c.in-Err.is ∙ c.find.ensures.place)))
