-- The levels of a recording: percentiles 10 and 99 of the frames with signal, and the thresholds of sound.
pub mod Sorted
pub mod SortedLaws
pub mod Keys
pub mod KeysLaws
pub mod Select
pub mod SelectLaws
pub mod Percentile
pub mod PercentileLaws
pub mod Threshold
pub mod ThresholdLaws
pub mod Levels
pub mod LevelsLaws
