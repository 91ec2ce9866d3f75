-- a change keeps the versions of a board orderly
use Rattle.std.proofs.Common.{◌≡◌, ℕ, true, false, not, is_some, refl, sym, ap, subst, ◌∙◌, Option, None, Some}
use Rattle.std.specs.Prelude.{IsSome, Result, Ok, Err, OnOk, OnErr}
use Rattle.std.specs.Option.{option_map}
use Rattle.casa_flight.specs.declared.row.Row.{Row}
use Rattle.casa_filing.specs.Text.{Text, at_name}
use Rattle.casa_footprint.specs.Items.{ItemName, a_row, Content}
use Rattle.casa_item.specs.declared.item.Item.{Item}
use Rattle.casa_item.specs.Versions.{Versions, IsOrderly, row_of, content_as}
use Rattle.casa_view.specs.Change.{is_absence, IsApplied}

there : (o : Option Row) → not (is_some o) ≡ false → IsSome o
there None h = cc
there (Some r) h = refl

no_version : {V : Type 0} {A : Type 0} (v : V) → Some v ≡ None → A
no_version v h = cc

pub orderly_kept : {V : Type 0} (item_of : V → Item) (stamp_of : V → ℕ) (says : ItemName → Option Content) (n : ℕ)
    (before now : Versions V) → IsApplied item_of stamp_of says n before now → IsOrderly item_of before
    → IsOrderly item_of now
orderly_kept {V} item_of stamp_of says n before now done orderly =
    record { in_order = done.in_order; rows_are_there = rows }
  where
    rows : (key : Text) (v : V) → at_name now.rows key ≡ Some v → IsSome (row_of (item_of v))
    rows key v at =
        elim (says (a_row key)) as (λ s. says (a_row key) ≡ s → IsSome (row_of (item_of v))) [
          | None ↦ λ p. orderly.rows_are_there key v (sym (done.others (a_row key) p) ∙ at)
          | Some x ↦ λ p. elim (is_absence x) as (λ b. is_absence x ≡ b → IsSome (row_of (item_of v))) [
            | true ↦ λ q. no_version v (sym at ∙ done.without (a_row key) x p q)
            | false ↦ λ q.
                there (row_of (item_of v))
                (ap is_absence (sym (ap (λ (w : Option V). content_as (a_row key) (option_map item_of w)) at)
                ∙ done.written (a_row key) x p) ∙ q)
          ] refl
        ] refl

-- so is a board that is written, or else as it was
pub orderly_written : {V U E : Type 0} (item_of : V → Item) (stamp_of : V → ℕ) (says : ItemName → Option Content) (n : ℕ)
    (before now : Versions V) (r : Result U E) → OnOk r (IsApplied item_of stamp_of says n before now)
    → OnErr r (now ≡ before) → IsOrderly item_of before → IsOrderly item_of now
orderly_written item_of stamp_of says n before now (Ok u) done same = orderly_kept item_of stamp_of says n before now done
orderly_written item_of stamp_of says n before now (Err e) done same = subst (IsOrderly item_of) (sym same)
