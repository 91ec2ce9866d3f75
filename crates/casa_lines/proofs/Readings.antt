-- the text of a call, with what stands beside it, is read as this call
use Rattle.std.proofs.Common.{◌≡◌, ℕ, ◌≤◌, List, [], ◌∷◌, ◌++◌, map, All, true, ◌&&◌, Some, Ok, refl, sym, ◌∙◌, ap, subst, arith, append-nil}
use Rattle.std.specs.Prelude.{Result, Err, OnOk, codes, nat_lt, nat_le, length}
use Rattle.std.specs.List.{list_all}
use Rattle.std.proofs.lemmas.Bool.{and_parts}
use Rattle.std.proofs.lemmas.Bool.Decides.{nat_tests}
use Rattle.serde_json.specs.Data.{string}
use Rattle.serde_json.specs.View.{items_of}
use Rattle.serde_json.specs.Written.{compact_text}
use Rattle.casa_grid.specs.declared.period.Period.{Period}
use Rattle.casa_filing.specs.Text.{Text, is_name_byte}
use Rattle.casa_filing.specs.FlightPlan.{FlightPlan}
use Rattle.casa_filing.specs.declared.plan.Crossing.{Crossing}
use Rattle.casa_filing.specs.declared.plan.Sts.{Sts}
use Rattle.casa_filing.specs.declared.plan.Sts.TheVariants.{Plain, Head, Sar, Medevac, Ffr, Atfmx}
use Rattle.casa_flight.specs.declared.call.Call.{Call}
use Rattle.casa_flight.specs.declared.call.Call.TheVariants.{File, Amend, Cancel, Revise, Exempt, Show, OpenReg, CloseReg, Rates, List as Listing, Tick, Swap}
use Rattle.casa_wire.specs.declared.fault.WireFault.{WireFault}
use Rattle.casa_wire.specs.LineTexts.{count, or_null}
use Rattle.casa_wire.specs.Commands.{line_call, line_value}
use Rattle.casa_lines.specs.Lines.{Member, object_with, command, crossing_data, period_data, status_name, plan_members, call_members, call_text}
use Rattle.casa_lines.specs.Sayable.{IsName, IsPlan, IsSayable}
use Rattle.casa_lines.proofs.Kept.{Over, over, off_block, taxi_fits, Within, within, small, number_small}
use Rattle.casa_lines.proofs.Plain.{is_plain, are_plain, IsPlain, ArePlain, ArePlainItems, object_plain}
use Rattle.casa_lines.proofs.Seen.{data_seen}
use Rattle.casa_lines.proofs.Again.{value_again}
use Rattle.casa_lines.proofs.Saying.{call_again}

plain_name : (t : Text) → IsName t → are_plain t ≡ true
plain_name t h =
    let some = and_parts (nat_lt 0 (length t)) (nat_le (length t) 10 && list_all is_name_byte t) h in
    bytes t (and_parts (nat_le (length t) 10) (list_all is_name_byte t) some.1).1
  where
    byte : (b : ℕ) → is_name_byte b ≡ true → is_plain b ≡ true
    byte b h = grind (arith, nat_tests)

    bytes : (t : Text) → list_all is_name_byte t ≡ true → are_plain t ≡ true
    bytes [] h = refl
    bytes (b ∷ t) h =
        let parts = and_parts (is_name_byte b) (list_all is_name_byte t) h in
        rw (byte b parts.0, bytes t parts.1) refl

via_plain : (via : List Crossing) → Over via → ArePlainItems 1 (items_of (map crossing_data via))
via_plain [] all = tt
via_plain (c ∷ via) all =
    (object_plain 0 ((codes "loc", string c.loc) ∷ (codes "eto", count c.eto) ∷ []) ((refl, plain_name c.loc all.0.0), ((refl, small c.eto all.0.1), tt)), via_plain via all.1)

periods_plain : (ps : List Period) → Within ps → ArePlainItems 1 (items_of (map period_data ps))
periods_plain [] all = tt
periods_plain (p ∷ ps) all = (
  object_plain 0 ((codes "from", count p.begin) ∷ (codes "to", count p.until) ∷ (codes "rate", count p.rate) ∷ [])
      ((refl, small p.begin all.0.0), ((refl, small p.until all.0.1), ((refl, number_small p.rate all.0.2), tt))),
  periods_plain ps all.1,
)

status_plain : (sts : Sts) → IsPlain 2 (or_null string (status_name sts))
status_plain Plain = tt
status_plain Head = refl
status_plain Sar = refl
status_plain Medevac = refl
status_plain Ffr = refl
status_plain Atfmx = refl

module _ (beside : List Member) (plain : ArePlain 2 beside) where
  plan_plain : (name : Text) (plan : FlightPlan) → are_plain name ≡ true → IsPlan plan → ArePlain 2 ((command name ∷ plan_members plan) ++ beside)
  plan_plain name plan named is = (
    (refl, named),
    (
      (refl, plain_name plan.key is.key),
      (
        (refl, small plan.eobt (off_block plan is)),
        (
          (refl, number_small plan.taxi (taxi_fits plan is)),
          ((refl, via_plain plan.via (over plan is)), ((refl, status_plain plan.sts), plain)),
        ),
      ),
    ),
  )

  call_plain : (call : Call) → IsSayable call → ArePlain 2 (call_members call ++ beside)
  call_plain (File plan) is = plan_plain (codes "file") plan refl is
  call_plain (Amend plan) is = plan_plain (codes "amend") plan refl is
  call_plain (Cancel key) is = ((refl, refl), ((refl, plain_name key is), plain))
  call_plain (Revise key) is = ((refl, refl), ((refl, plain_name key is), plain))
  call_plain (Exempt key) is = ((refl, refl), ((refl, plain_name key is), plain))
  call_plain (Show key) is = ((refl, refl), ((refl, plain_name key is), plain))
  call_plain (OpenReg reg loc periods) is =
      ((refl, refl), ((refl, plain_name reg is.0), ((refl, plain_name loc is.1), ((refl, periods_plain periods (within periods is.2)), plain))))
  call_plain (CloseReg reg) is = ((refl, refl), ((refl, plain_name reg is), plain))
  call_plain (Rates reg periods) is = ((refl, refl), ((refl, plain_name reg is.0), ((refl, periods_plain periods (within periods is.1)), plain)))
  call_plain (Listing reg) is = ((refl, refl), ((refl, plain_name reg is), plain))
  call_plain (Tick at) is = ((refl, refl), ((refl, small at is), plain))
  call_plain (Swap key other) is = ((refl, refl), ((refl, plain_name key is.0), ((refl, plain_name other is.1), plain)))

  module _ (call : Call) (is : IsSayable call) where
    line_plain : IsPlain 3 (object_with (call_members call ++ beside))
    line_plain = object_plain 2 (call_members call ++ beside) (call_plain call is)

    pub value_beside : line_value (compact_text (object_with (call_members call ++ beside))) ≡ Some (object_with (call_members call ++ beside))
    value_beside = value_again 3 (object_with (call_members call ++ beside)) line_plain (omega arith)

    pub read_beside : line_call (compact_text (object_with (call_members call ++ beside))) ≡ Ok call
    unfolding line_call
    read_beside = rw value_beside (call_again beside call is)

    pub seen_beside : All (λ (b : ℕ). (32 ≤ b) × (b ≤ 126)) (compact_text (object_with (call_members call ++ beside)))
    seen_beside = data_seen 3 (object_with (call_members call ++ beside)) line_plain

module _ (call : Call) (is : IsSayable call) where
  alone : call_members call ++ [] ≡ call_members call
  alone = append-nil (call_members call)

  pub call_read : line_call (call_text call) ≡ Ok call
  call_read = subst (λ (members : List Member). line_call (compact_text (object_with members)) ≡ Ok call) alone (read_beside [] tt call is)

  pub call_seen : All (λ (b : ℕ). (32 ≤ b) × (b ≤ 126)) (call_text call)
  call_seen = subst (λ (members : List Member). All (λ (b : ℕ). (32 ≤ b) × (b ≤ 126)) (compact_text (object_with members))) alone (seen_beside [] tt call is)

abbrev said : Call → Result Call WireFault
said call = Ok call

same_calls : (call another : Call) → said call ≡ said another → call ≡ another
same_calls call another same = cc

pub apart : (call another : Call) → IsSayable call → IsSayable another → call_text call ≡ call_text another → call ≡ another
apart call another is are same = same_calls call another (sym (call_read call is) ∙ ap line_call same ∙ call_read another are)

-- what holds always holds where a function ends well
pub on_ok : {U E P : Type 0} (r : Result U E) → P → OnOk r P
on_ok (Ok u) is = is
on_ok (Err e) is = tt
