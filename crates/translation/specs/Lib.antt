-- The translated table is File, what translating answers Translated; the rest follows from them. Assumes nothing.
pub mod File
pub mod Translated
pub mod Marks
pub mod Demand3
pub mod Asks
pub mod Written
