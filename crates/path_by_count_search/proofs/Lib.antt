-- What stands on the bound's law: which part of a range a visit leaves out.
pub mod VisitLaws
