-- what is answered to a call is planned for it
use Rattle.std.proofs.Common.{◌≡◌, sym, subst}
use Rattle.std.specs.Prelude.{Result, Ok, Err, IfOk}
use Rattle.std.specs.declared.alloc.AllocError.{AllocError}
use Rattle.casa_flight.specs.declared.call.Call.{Call}
use Rattle.casa_flight.specs.declared.reply.Reply.{Reply}
use Rattle.casa_plan_spec.specs.Sight.{Sight, Written, IsPlanned}

pub answered : (v : Sight) (call said : Call) (p : Reply × Written) (r : Result (Reply × Written) AllocError)
    → call ≡ said → IfOk r (λ (q : Reply × Written). q ≡ p) → IsPlanned v said p → IfOk r (IsPlanned v call)
answered v call said p (Ok q) is same planned =
    subst (λ (c : Call). IsPlanned v c q) (sym is) (subst (λ (x : Reply × Written). IsPlanned v said x) (sym same) planned)
answered v call said p (Err e) is same planned = tt
