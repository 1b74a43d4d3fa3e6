-- A step's answer, and what holds of a record that moved. Assumes nothing.
pub mod Step
pub mod Laws
