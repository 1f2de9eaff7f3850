-- The steps of a plan in work memory: definitions and laws.
pub mod Steps
pub mod Held
pub mod HeldLaws
pub mod Complete
pub mod CompleteLaws
pub mod CutsAddedLaws
pub mod CountLaws
pub mod Search
pub mod SearchLaws
pub mod Hand
pub mod HandLaws
pub mod AlongLaws
