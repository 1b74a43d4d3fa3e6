-- The table file and the refusal list, up to BlockOf, and then what follows from them, each file over the ones before it. Assumes nothing.
pub mod First
pub mod Given
pub mod Layout
pub mod Refusals
pub mod Open
pub mod InOrder
pub mod BlockOf
pub mod LaidOut
pub mod Inside
pub mod Rows
pub mod WhichCount
pub mod WellFormed
pub mod Recording
