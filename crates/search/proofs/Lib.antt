-- The laws, each file over the ones before it. Assumes nothing.
pub mod Places
pub mod Workspace
pub mod MeetLaws
pub mod Floor
pub mod Follow
pub mod Scanning
pub mod StartsLaws
pub mod Report
pub mod ClimbLaws
pub mod Writing
pub mod FindLaws
pub mod Laws
