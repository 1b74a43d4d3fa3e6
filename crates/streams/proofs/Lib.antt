pub mod Came
pub mod Parts
