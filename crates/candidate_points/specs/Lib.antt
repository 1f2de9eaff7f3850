-- Where grid points go: blocked boundaries, blocks and their points.
pub mod Flags
pub mod FlagsLaws
pub mod Placed
pub mod PlacedLaws
pub mod Blocked
pub mod BlockedLaws
pub mod BlockedWalk
pub mod Points
pub mod BlocksLaws
pub mod PointsLaws
pub mod PointsWalk
pub mod Theorems
pub mod Clear
