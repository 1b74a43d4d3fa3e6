-- The quote sheet. Assumes nothing.
pub mod Sizes
pub mod Boards
pub mod Members
pub mod Quote
