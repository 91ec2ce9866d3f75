use Rattle.casa_filing.proofs.PlanFaults.{is_valid, has_name, plan_fault-none}
use Rattle.casa_laws.proofs.laws.valid_plan_has_no_fault.Goals as goal

pub returns : goal.returns
returns c = λ key eobt taxi via. (
  (λ h. (has_name key eobt taxi via h, is_valid key eobt taxi via h)),
  (λ h. plan_fault-none key eobt taxi via h.0 h.1),
)
