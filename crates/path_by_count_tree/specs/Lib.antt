-- Which of two candidates comes first, and the tree of least scores over one row of the table by count.
pub mod Least
pub mod LeastLaws
pub mod Tree
pub mod TreeLaws
pub mod PartLaws
pub mod Fill
pub mod FillLaws
