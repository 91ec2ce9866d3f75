-- views with the versions of what is read
use Rattle.std.proofs.Common.{◌≡◌, Bool, true, false, refl, ap, ◌∙◌, Option, None, Some}
use Rattle.std.specs.Prelude.{if◌then◌else◌}
use Rattle.std.specs.Option.{option_map}
use Rattle.casa_filing.specs.Text.{Text, at_name}
use Rattle.casa_footprint.specs.Items.{the_clock, the_catalogue, a_row, a_list}
use Rattle.casa_view.specs.declared.view.View.{View}
use Rattle.casa_item.specs.Versions.{Versions}
use Rattle.casa_view.specs.View.{seen_in, IsTaken}
use Rattle.casa_view.specs.Taking.{name_test}

one_taken : {V : Type 0} (v : V) (w : Bool) →
    option_map Some (if w then Some v else None) ≡ (if w then Some (Some v) else None)
one_taken v true = refl
one_taken v false = refl

pub view_taken : {V : Type 0} (vs : Versions V) (view : View V) (w z : Bool) →
    view.clock ≡ (if w then Some vs.clock else None) → view.catalogue ≡ (if z then Some vs.catalogue else None) →
    (t u : Text → Bool) →
    ((q : Text) → seen_in view.rows q ≡ (if t q then Some (at_name vs.rows q) else None)) →
    ((q : Text) → seen_in view.lists q ≡ (if u q then Some (at_name vs.lists q) else None)) →
    IsTaken vs (name_test w z t u) view
view_taken {V} vs view w z c r t u row list the_clock =
    ap (λ (o : Option V). option_map Some o) c ∙ one_taken vs.clock w
view_taken {V} vs view w z c r t u row list the_catalogue =
    ap (λ (o : Option V). option_map Some o) r ∙ one_taken vs.catalogue z
view_taken vs view w z c r t u row list (a_row q) = row q
view_taken vs view w z c r t u row list (a_list q) = list q
