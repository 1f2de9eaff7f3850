-- What stands at a place of some bytes.
pub mod Numbers
pub mod NumbersLaws
pub mod Patterns
pub mod Bytes
pub mod BytesLaws
