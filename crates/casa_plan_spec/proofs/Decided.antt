-- what a call reads decides its reply
use Rattle.std.proofs.Common.{◌≡◌, Some, [], refl, sym, ap, ◌∙◌}
use Rattle.casa_flight.specs.declared.call.Call.{Call}
use Rattle.casa_flight.specs.declared.call.Call.TheVariants.{File, Amend, Cancel, Revise, Exempt, OpenReg, CloseReg, Rates, Tick, Show, List, Swap}
use Rattle.casa_flight.specs.declared.reply.Reply.{Reply}
use Rattle.casa_flight.specs.declared.state.State.{State}
use Rattle.casa_flight.specs.State.{catalogue}
use Rattle.casa_flight.specs.Good.{IsGood}
use Rattle.casa_flight.specs.Replies.{reply}
use Rattle.casa_laws.proofs.Kept.{same_entries}
use Rattle.casa_footprint.specs.Items.{the_clock, the_catalogue, a_row, a_list, moment, AgreeOn}
use Rattle.casa_footprint.specs.Footprint.{reads}
use Rattle.casa_footprint.proofs.Names.{catalogue_in, row_in, list_in}
use Rattle.casa_plan_spec.specs.Sight.{Sight, Written, IsSightOf, IsPlanned}
use Rattle.casa_plan_spec.specs.FlightCalls.{file, amend, cancel, revise, exempt, show}
use Rattle.casa_plan_spec.specs.Opening.{open_reg}
use Rattle.casa_plan_spec.specs.Closing.{close_reg}
use Rattle.casa_plan_spec.specs.NewRates.{rates}
use Rattle.casa_plan_spec.specs.Issue.{tick}
use Rattle.casa_plan_spec.specs.Look.{list}
use Rattle.casa_plan_spec.specs.Swapping.{swap}
use Rattle.casa_plan_spec.proofs.Board.{whole, whole-list}
use Rattle.casa_plan_spec.proofs.FlightCalls.{file_planned, amend_planned, cancel_planned, revise_planned, exempt_planned, show_planned}
use Rattle.casa_plan_spec.proofs.Opens.{open_planned}
use Rattle.casa_plan_spec.proofs.Closes.{close_planned}
use Rattle.casa_plan_spec.proofs.NewRates.{rates_planned}
use Rattle.casa_plan_spec.proofs.Ticks.{tick_planned}
use Rattle.casa_plan_spec.proofs.Listed.{list_planned}
use Rattle.casa_plan_spec.proofs.Swaps.{swap_planned}

-- all of a state, as a view shows it
abbrev all_of : State → Sight
all_of n = whole (record { clock = Some n.clock; catalogue = Some (catalogue n); rows = []; lists = [] }) n

moment_same : (s t : _) → moment s ≡ moment t → t ≡ s
moment_same s t same = cc

-- it shows what a call reads in each good state that contains the same there
shows_all : (m n : State) (call : Call) → IsGood m → IsGood n → AgreeOn (reads m call) m n → IsSightOf m call (all_of n)
shows_all m n call good well agree = record {
  clock = λ e. ap Some (moment_same m.clock n.clock (agree the_clock e));
  catalogue = λ e. ap Some (sym (catalogue_in m n (agree the_catalogue e)));
  row = λ key e. sym (row_in m n key (agree (a_row key) e));
  list = λ id e. whole-list (all_of n) n id ∙ sym (list_in m n id (agree (a_list id) e));
  rows = λ all. same_entries n.rows m.rows well.rows_in_order good.rows_in_order
      (λ key. sym (row_in m n key (agree (a_row key) (all key))));
}

module _ (m n : State) (good : IsGood m) (well : IsGood n) where
  planned_same : (call : Call) (p : Reply × Written) → AgreeOn (reads m call) m n → IsPlanned (all_of n) call p
      → reply m call ≡ reply n call
  planned_same call p agree planned =
      sym (planned m good (shows_all m n call good well agree)).0
      ∙ (planned n well (shows_all n n call well well (λ i e. refl))).0

  decided : (call : Call) → AgreeOn (reads m call) m n → reply m call ≡ reply n call
  decided (File plan) agree = planned_same (File plan) (file (all_of n) plan) agree (file_planned (all_of n) plan)
  decided (Amend plan) agree = planned_same (Amend plan) (amend (all_of n) plan) agree (amend_planned (all_of n) plan)
  decided (Cancel key) agree = planned_same (Cancel key) (cancel (all_of n) key) agree (cancel_planned (all_of n) key)
  decided (Revise key) agree = planned_same (Revise key) (revise (all_of n) key) agree (revise_planned (all_of n) key)
  decided (Exempt key) agree = planned_same (Exempt key) (exempt (all_of n) key) agree (exempt_planned (all_of n) key)
  decided (OpenReg id loc profile) agree =
      planned_same (OpenReg id loc profile) (open_reg (all_of n) id loc profile) agree (open_planned (all_of n) id loc profile)
  decided (CloseReg id) agree = planned_same (CloseReg id) (close_reg (all_of n) id) agree (close_planned (all_of n) id)
  decided (Rates id profile) agree =
      planned_same (Rates id profile) (rates (all_of n) id profile) agree (rates_planned (all_of n) id profile)
  decided (Tick at) agree = planned_same (Tick at) (tick (all_of n) at) agree (tick_planned (all_of n) at)
  decided (Show key) agree = planned_same (Show key) (show (all_of n) key) agree (show_planned (all_of n) key)
  decided (List id) agree = planned_same (List id) (list (all_of n) id) agree (list_planned (all_of n) id)
  decided (Swap key other) agree = planned_same (Swap key other) (swap (all_of n) key other) agree (swap_planned (all_of n) key other)

pub reply_decided : (m n : State) (call : Call) → IsGood m → IsGood n → AgreeOn (reads m call) m n → reply m call ≡ reply n call
reply_decided m n call good well agree = decided m n good well call agree
