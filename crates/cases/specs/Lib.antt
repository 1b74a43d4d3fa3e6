-- What the parts that the programs of the cases share do. Assumes nothing.
pub mod Changed
pub mod Patterned
pub mod Printed
