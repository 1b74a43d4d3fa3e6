-- The laws, each file over the ones before it. Assumes nothing.
pub mod Tests
pub mod Counts
pub mod Leads
pub mod ReadBack
pub mod MarksLaws
pub mod Demand3
pub mod Asks
pub mod Writing
pub mod Along
pub mod Laws
pub mod Written
