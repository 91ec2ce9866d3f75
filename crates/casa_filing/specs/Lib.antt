pub mod Text
pub mod NameInside
pub mod FlightPlan
pub mod PlanFaults
pub mod PlanEquality
pub mod Subject
