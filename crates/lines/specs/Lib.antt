-- The text of the programs is Text, what they answer Says; Puts the laws' word. Assumes nothing.
pub mod Text
pub mod Puts
pub mod Says
