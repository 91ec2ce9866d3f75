use Rattle.std.proofs.Common.{◌≡◌, ◌∙◌, ◌<◌, Some, ap, refl, length, rules}
use Rattle.std.specs.List.{slice_get}
use Rattle.std.proofs.lemmas.Option.{slice_get_read}
use Rattle.casa_filing.specs.Text.{at_name}
use Rattle.casa_list.proofs.Keyed.{hit_within, hit_value}
use Rattle.casa_named.proofs.sorted.Sorted.get.Goals as goal

pub index-requires : goal.index-requires
index-requires g c =
    let found = rw (← c.self.view_is) at c.in-Ok.ensures.place in
    let within : c.in-Ok.at < length c.self.inside.entries.items = hit_within _ _ _ c.self.invariant found in
    search rules

pub returns-in-Ok : goal.returns-in-Ok
returns-in-Ok g c =
    let es = c.self.inside.entries.items in
    let found = rw (← c.self.view_is) at c.in-Ok.ensures.place in
    let within : c.in-Ok.at < length es = hit_within _ _ _ c.self.invariant found in
    let here : slice_get es c.in-Ok.at ≡ Some c.index.result.now = slice_get_read es (length es) c.in-Ok.at c.index.result.now refl within c.index.ensures in
    hit_value es _ _ c.self.invariant _ here found ∙ ap (λ fs. at_name fs c.args.name.now) c.self.view_is
