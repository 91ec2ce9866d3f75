-- the data of a command line is read as its call, whatever stands beside it
use Rattle.std.proofs.Common.{◌≡◌, ℕ, ◌≤◌, List, [], ◌∷◌, ◌++◌, map, Bool, true, false, cond, bytes_eq, Option, Some, None, Ok, true≢false, refl, sym, ◌∙◌, le-leb}
use Rattle.std.proofs.lemmas.Slice.Eq.{bytes_eq-Decides}
use Rattle.std.specs.Prelude.{Result, codes}
use Rattle.serde_json.specs.Data.{Data, string, Members, put}
use Rattle.serde_json.specs.Find.{get, get_member}
use Rattle.serde_json.specs.View.{items_of}
use Rattle.serde_json.proofs.Views.{get_member-put, get_member-put_other}
use Rattle.casa_time.specs.Moment.{last_moment}
use Rattle.casa_grid.specs.declared.period.Period.{Period}
use Rattle.casa_filing.specs.Text.{Text}
use Rattle.casa_filing.specs.FlightPlan.{FlightPlan}
use Rattle.casa_filing.specs.declared.plan.Crossing.{Crossing}
use Rattle.casa_filing.specs.declared.plan.Sts.{Sts}
use Rattle.casa_filing.specs.declared.plan.Sts.TheVariants.{Plain, Head, Sar, Medevac, Ffr, Atfmx}
use Rattle.casa_flight.specs.declared.call.Call.{Call}
use Rattle.casa_flight.specs.declared.call.Call.TheVariants.{File as FileCall, Amend as AmendCall, Cancel as CancelCall, Revise as ReviseCall, Exempt as ExemptCall, Show as ShowCall, OpenReg as OpenCall, CloseReg as CloseCall, Rates as RatesCall, List as ListCall, Tick as TickCall, Swap as SwapCall}
use Rattle.casa_wire.specs.declared.fault.WireFault.{WireFault}
use Rattle.casa_wire.specs.declared.fault.WireFault.TheVariants.{NoCommand}
use Rattle.casa_wire.specs.LineTexts.{count, list_of, or_null}
use Rattle.casa_wire.specs.Members.{all_of, crossing_of, period_of, status_of}
use Rattle.casa_wire.specs.Commands.{◌>>=◌, or_fault, command_of, call_of, plan_member, profile_member, file_call, amend_call, cancel_call, revise_call, exempt_call, show_call, open_call, close_call, rates_call, list_call, tick_call, swap_call}
use Rattle.casa_lines.specs.Lines.{Member, members_with, object_with, command, crossing_data, period_data, status_name, plan_members, call_members}
use Rattle.casa_lines.specs.Sayable.{IsName, IsPlan, IsProfileOfMoments, IsSayable}
use Rattle.casa_lines.proofs.Kept.{Over, over, no_plan_fault, off_block, taxi_fits, Within, within, no_profile_fault}

-- what the data of a line say
abbrev said : Data → Result Call WireFault
said d = or_fault NoCommand (command_of d) >>= (λ command. call_of command d)

-- the first member under this name
abbrev found : Text → List Member → Option Data
found k [] = None
found k (m ∷ ms) = cond (bytes_eq k m.0) (Some m.1) (found k ms)

there_at : (b : Bool) (k : Text) (m : Member) (rest : Option Data) (ms : Members) (d : Data) → bytes_eq k m.0 ≡ b → (rest ≡ Some d → get_member k ms ≡ Some d) → cond b (Some m.1) rest ≡ Some d
    → get_member k (put m.0 m.1 ms) ≡ Some d
there_at true k m rest ms d test later is = let same : k ≡ m.0 = (bytes_eq-Decides k m.0).0 test in rw same (get_member-put m.0 m.1 ms ∙ is)
there_at false k m rest ms d test later is = get_member-put_other k m.0 m.1 ms (λ (same : k ≡ m.0). true≢false (sym ((bytes_eq-Decides k m.0).1 same) ∙ test)) ∙ later is

-- it is found, whatever stands behind them
there : (k : Text) (members beside : List Member) (d : Data) → found k members ≡ Some d → get k (object_with (members ++ beside)) ≡ Some d
there k [] beside d is = absurd (cc)
there k (m ∷ ms) beside d is = there_at (bytes_eq k m.0) k m (found k ms) (members_with (ms ++ beside)) d refl (there k ms beside d) is

crossings_again : (via : List Crossing) → Over via → all_of crossing_of (items_of (map crossing_data via)) ≡ Some via
crossings_again [] all = refl
crossings_again (c ∷ via) all = rw (all.0.0, le-leb _ _ all.0.1, crossings_again via all.1) refl

periods_again : (ps : List Period) → Within ps → all_of period_of (items_of (map period_data ps)) ≡ Some ps
periods_again [] all = refl
periods_again (p ∷ ps) all = rw (le-leb _ _ all.0.0, le-leb _ _ all.0.1, le-leb _ _ all.0.2, periods_again ps all.1) refl

status_again : (sts : Sts) → status_of (Some (or_null string (status_name sts))) ≡ Some sts
status_again Plain = refl
status_again Head = refl
status_again Sar = refl
status_again Medevac = refl
status_again Ffr = refl
status_again Atfmx = refl

module _ (beside : List Member) where
  plan_again : (name : Text) (plan : FlightPlan) → IsPlan plan → plan_member (object_with ((command name ∷ plan_members plan) ++ beside)) ≡ Ok plan
  unfolding plan_member
  plan_again name plan is =
      let members = command name ∷ plan_members plan in
      rw (
        there (codes "key") members beside (string plan.key) refl,
        there (codes "eobt") members beside (count plan.eobt) refl,
        there (codes "taxi") members beside (count plan.taxi) refl,
        there (codes "via") members beside (list_of crossing_data plan.via) refl,
        there (codes "sts") members beside (or_null string (status_name plan.sts)) refl,
        le-leb _ _ (off_block plan is),
        le-leb _ _ (taxi_fits plan is),
        crossings_again plan.via (over plan is),
        status_again plan.sts,
        no_plan_fault plan is,
      ) refl

  abbrev line : Call → Data
  line call = object_with (call_members call ++ beside)

  has : (call : Call) (k : Text) (d : Data) → found k (call_members call) ≡ Some d → get k (line call) ≡ Some d
  has call k d is = there k (call_members call) beside d is

  file_again : (plan : FlightPlan) → IsPlan plan → file_call (line (FileCall plan)) ≡ Ok (FileCall plan)
  unfolding file_call
  file_again plan is = rw (plan_again (codes "file") plan is) refl

  amend_again : (plan : FlightPlan) → IsPlan plan → amend_call (line (AmendCall plan)) ≡ Ok (AmendCall plan)
  unfolding amend_call
  amend_again plan is = rw (plan_again (codes "amend") plan is) refl

  cancel_again : (key : Text) → IsName key → cancel_call (line (CancelCall key)) ≡ Ok (CancelCall key)
  unfolding cancel_call
  cancel_again key is = rw (has (CancelCall key) (codes "key") (string key) refl, is) refl

  revise_again : (key : Text) → IsName key → revise_call (line (ReviseCall key)) ≡ Ok (ReviseCall key)
  unfolding revise_call
  revise_again key is = rw (has (ReviseCall key) (codes "key") (string key) refl, is) refl

  exempt_again : (key : Text) → IsName key → exempt_call (line (ExemptCall key)) ≡ Ok (ExemptCall key)
  unfolding exempt_call
  exempt_again key is = rw (has (ExemptCall key) (codes "key") (string key) refl, is) refl

  show_again : (key : Text) → IsName key → show_call (line (ShowCall key)) ≡ Ok (ShowCall key)
  unfolding show_call
  show_again key is = rw (has (ShowCall key) (codes "key") (string key) refl, is) refl

  close_again : (reg : Text) → IsName reg → close_call (line (CloseCall reg)) ≡ Ok (CloseCall reg)
  unfolding close_call
  close_again reg is = rw (has (CloseCall reg) (codes "reg") (string reg) refl, is) refl

  list_again : (reg : Text) → IsName reg → list_call (line (ListCall reg)) ≡ Ok (ListCall reg)
  unfolding list_call
  list_again reg is = rw (has (ListCall reg) (codes "reg") (string reg) refl, is) refl

  open_again : (reg loc : Text) (periods : List Period) → IsName reg → IsName loc → IsProfileOfMoments periods
      → open_call (line (OpenCall reg loc periods)) ≡ Ok (OpenCall reg loc periods)
  unfolding open_call profile_member
  open_again reg loc periods is at profile =
      let call = OpenCall reg loc periods in
      rw (
        has call (codes "reg") (string reg) refl,
        has call (codes "loc") (string loc) refl,
        has call (codes "periods") (list_of period_data periods) refl,
        is,
        at,
        periods_again periods (within periods profile),
        no_profile_fault periods profile,
      ) refl

  rates_again : (reg : Text) (periods : List Period) → IsName reg → IsProfileOfMoments periods
      → rates_call (line (RatesCall reg periods)) ≡ Ok (RatesCall reg periods)
  unfolding rates_call profile_member
  rates_again reg periods is profile =
      let call = RatesCall reg periods in
      rw (
        has call (codes "reg") (string reg) refl,
        has call (codes "periods") (list_of period_data periods) refl,
        is,
        periods_again periods (within periods profile),
        no_profile_fault periods profile,
      ) refl

  tick_again : (at : ℕ) → at ≤ last_moment → tick_call (line (TickCall at)) ≡ Ok (TickCall at)
  unfolding tick_call
  tick_again at is = rw (has (TickCall at) (codes "at") (count at) refl, le-leb _ _ is) refl

  swap_again : (key other : Text) → IsName key → IsName other → swap_call (line (SwapCall key other)) ≡ Ok (SwapCall key other)
  unfolding swap_call
  swap_again key other is also = rw (has (SwapCall key other) (codes "key") (string key) refl, has (SwapCall key other) (codes "other") (string other) refl, is, also) refl

  pub call_again : (call : Call) → IsSayable call → said (line call) ≡ Ok call
  call_again (FileCall plan) is = rw (has (FileCall plan) (codes "cmd") (string (codes "file")) refl) (file_again plan is)
  call_again (AmendCall plan) is = rw (has (AmendCall plan) (codes "cmd") (string (codes "amend")) refl) (amend_again plan is)
  call_again (CancelCall key) is = rw (has (CancelCall key) (codes "cmd") (string (codes "cancel")) refl) (cancel_again key is)
  call_again (ReviseCall key) is = rw (has (ReviseCall key) (codes "cmd") (string (codes "revise")) refl) (revise_again key is)
  call_again (ExemptCall key) is = rw (has (ExemptCall key) (codes "cmd") (string (codes "exempt")) refl) (exempt_again key is)
  call_again (ShowCall key) is = rw (has (ShowCall key) (codes "cmd") (string (codes "show")) refl) (show_again key is)
  call_again (OpenCall reg loc periods) is = rw (has (OpenCall reg loc periods) (codes "cmd") (string (codes "open")) refl) (open_again reg loc periods is.0 is.1 is.2)
  call_again (CloseCall reg) is = rw (has (CloseCall reg) (codes "cmd") (string (codes "close")) refl) (close_again reg is)
  call_again (RatesCall reg periods) is = rw (has (RatesCall reg periods) (codes "cmd") (string (codes "rates")) refl) (rates_again reg periods is.0 is.1)
  call_again (ListCall reg) is = rw (has (ListCall reg) (codes "cmd") (string (codes "list")) refl) (list_again reg is)
  call_again (TickCall at) is = rw (has (TickCall at) (codes "cmd") (string (codes "tick")) refl) (tick_again at is)
  call_again (SwapCall key other) is = rw (has (SwapCall key other) (codes "cmd") (string (codes "swap")) refl) (swap_again key other is.0 is.1)
