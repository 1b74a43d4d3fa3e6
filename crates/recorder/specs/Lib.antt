-- The rules, Block to Says, and then the statements that proofs/ proves, each file over the ones before it. Assumes nothing.
pub mod Block
pub mod Lasso
pub mod Flag
pub mod Recorder
pub mod Looped
pub mod Slots
pub mod Says
pub mod Matching
pub mod Places
pub mod Words
pub mod SlotGraph
pub mod Least
pub mod Demand3
