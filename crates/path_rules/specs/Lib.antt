-- The rules of a path, by length and by count: what is said of paths here names no search.
pub mod Paths
pub mod PathsLaws
pub mod Ties
pub mod TiesLaws
pub mod TiesByCountLaws
pub mod BestPath
pub mod Raised
pub mod RaisedLaws
