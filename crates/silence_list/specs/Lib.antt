-- The operation "silence list".
pub mod Refusal
pub mod RefusalLaws
pub mod Silences
pub mod SilencesLaws
pub mod Theorems
