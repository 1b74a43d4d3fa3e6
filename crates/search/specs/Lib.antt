-- The search's answer is Searched; the other files are about the buffers, the scan, and both together. Assumes nothing.
pub mod Workspace
pub mod Meet
pub mod Scan
pub mod Starts
pub mod Report
pub mod Climb
pub mod Searched
pub mod Find
