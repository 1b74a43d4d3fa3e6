-- The laws, each file over the ones before it. Assumes nothing.
pub mod Listed
pub mod Joined
pub mod Little
pub mod Placed
pub mod Cleared
pub mod Header
pub mod Sections
pub mod FileRead
pub mod Formed
pub mod Tests
