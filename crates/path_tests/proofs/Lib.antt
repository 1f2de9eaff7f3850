-- Lemmas of the proofs.
pub mod Told
