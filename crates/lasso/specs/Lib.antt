-- The numbers and words of the answers for C. Assumes nothing.
pub mod Words
pub mod Says
