-- The laws, each file over the ones before it. Assumes nothing.
pub mod Sizes
pub mod MembersLaws
pub mod QuoteLaws
