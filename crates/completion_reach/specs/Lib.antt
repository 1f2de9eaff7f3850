-- By count, how far a division can go at each step, whether a limit leaves few enough pieces, and the reach.
pub mod GroundLaws
pub mod Reachable
pub mod ReachableLaws
pub mod Place
pub mod PlaceLaws
pub mod Next
pub mod NextLaws
pub mod Fits
pub mod FitsLaws
pub mod Reach
pub mod ReachLaws
pub mod Cuts
