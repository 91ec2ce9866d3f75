-- for proofs: every call keeps a board standing well
use Rattle.std.proofs.Common.{ℕ, not, is_some, refl, ap, Option}
use Rattle.std.specs.Prelude.{if◌then◌else◌}
use Rattle.casa_flight.specs.declared.call.Call.{Call}
use Rattle.casa_flight.specs.declared.row.Row.{Row}
use Rattle.casa_laws.proofs.Good.{empty_good}
use Rattle.casa_laws.proofs.GoodRegs.{next-good}
use Rattle.casa_footprint.specs.Items.{a_row}
use Rattle.casa_footprint.specs.Footprint.{writes}
use Rattle.casa_view.specs.BoardState.{BoardState, IsGoodBoard, opening, after}

pub opening_is_good : IsGoodBoard opening
opening_is_good = record { good = empty_good; catalogue_is = refl; list_is = λ id. refl; unstamped = λ key h. refl }

pub after_is_good : (position : ℕ) (s : BoardState) (call : Call) → IsGoodBoard s → IsGoodBoard (after position s call)
after_is_good position s call well = record {
  good = next-good s.state call well.good;
  catalogue_is = refl;
  list_is = λ id. refl;
  unstamped = λ key h.
      ap (λ (w : Option Row). if not (is_some w) then 0
      else (if writes s.state call (a_row key) then position else s.stamp (a_row key))) h;
}
