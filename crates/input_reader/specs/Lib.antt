-- Input read to its end: what each answer of `read` says, and what all the reads leave.
pub mod Input
pub mod InputLaws
