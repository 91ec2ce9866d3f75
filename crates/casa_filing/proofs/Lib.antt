pub mod Names
pub mod Numbers
pub mod PlanFaults
pub mod Entries
pub mod Same
