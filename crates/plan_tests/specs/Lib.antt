-- The tests of the operation Plan before 14, and what they leave for the work.
pub mod Refusal
pub mod Fitting
pub mod RefusalLaws
pub mod PlanReady
