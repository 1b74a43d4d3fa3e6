-- What the proofs of the crate share.
pub mod Steps
pub mod Texts
