-- What the program prints of what it reads. Assumes nothing.
pub mod Prints
