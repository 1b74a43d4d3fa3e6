-- The laws, each file over the ones before it. Assumes nothing.
pub mod First
pub mod Scan
pub mod Given
pub mod InOrder
pub mod Bits
pub mod Facts
pub mod LaidOut
pub mod Inside
pub mod Rows
pub mod Targets
pub mod Stages
pub mod WhichCount
pub mod WellFormed
pub mod Sound
pub mod Row
pub mod Recording
pub mod Labels
