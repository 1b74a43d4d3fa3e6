-- The laws, each file over the ones before it. Assumes nothing.
pub mod Decimal
pub mod Puts
pub mod Laws
