-- Laws about lists and about rounding that proofs of loops and functions cite. The definitions are in base_terms.
pub mod ListsLaws
pub mod Elements
pub mod FrontLaws
pub mod Copying
pub mod Floats
pub mod RoundLaws
pub mod WorkLaws
