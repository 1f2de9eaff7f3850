-- A silence's own candidate: where it is cut, and at which level.
pub mod Place
pub mod ShareLaws
pub mod PlaceLaws
pub mod Cut
pub mod LeastLaws
pub mod CutLaws
pub mod CutsLaws
