-- The path over a plan's candidates in work memory.
pub mod Held
pub mod HeldLaws
pub mod ByLengthLaws
pub mod ByCountLaws
pub mod Search
pub mod SearchLaws
pub mod Asked
pub mod AskedLaws
