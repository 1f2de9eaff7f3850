-- The program `cutplan`, from the bytes of a job to those of its listing.
pub mod Cutplan
pub mod CutplanLaws
pub mod Lines
pub mod LinesLaws
pub mod Memory
pub mod MemoryLaws
pub mod Roomy
pub mod RoomyLaws
pub mod Head
pub mod HeadLaws
pub mod Theorems
pub mod WideLaws
pub mod Longest
