-- How many bytes came in a read, whether it failed or not, that they fit, and which they are. Assumes nothing.
pub mod Counted
pub mod Known
