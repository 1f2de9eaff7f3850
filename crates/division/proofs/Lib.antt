-- What stands on the farthest place of each step: no other division is ahead of the greedy one, so it tells which limits are feasible.
pub mod AheadLaws
pub mod GreedyFound
pub mod ReachFound
