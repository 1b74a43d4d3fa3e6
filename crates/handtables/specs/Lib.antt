-- The twelve tables of docs/RULES.md, "Tables by hand", with the rows that proofs/Twelve.antt shows to hold. Assumes nothing.
pub mod Drawn
pub mod HandRow
pub mod Rows
