-- What is claimed in Made, proved: of every call of the operation Plan, and of every plan.
pub mod MadeLaws
pub mod Theorems
pub mod TailTheorems
