-- The laws, each file over the ones before it. Assumes nothing.
pub mod Slots
pub mod Says
pub mod Fits
pub mod Ties
pub mod Live
pub mod Bits
pub mod Matching
pub mod Places
pub mod Bad
pub mod Words
pub mod SlotGraph
pub mod Successors
pub mod SlotRuns
pub mod LassoWords
pub mod Least
pub mod Listing
pub mod Demand3
