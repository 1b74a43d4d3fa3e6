-- What the program writes of what it reads. Assumes nothing.
pub mod Writes
