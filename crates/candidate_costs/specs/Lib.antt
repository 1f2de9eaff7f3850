-- What a cut costs: levels and quiet stretches at frame boundaries, and the cost made of them.
pub mod Window
pub mod WindowLaws
pub mod Normalize
pub mod NormalizeLaws
pub mod Level
pub mod LevelLaws
pub mod Within
pub mod Stretch
pub mod StretchLaws
pub mod Cost
pub mod CostLaws
pub mod Quietest
pub mod QuietestLaws
