-- The laws, each file over the ones before it. Assumes nothing.
pub mod Word
pub mod Graph
pub mod Search
pub mod Loop
pub mod Turn
pub mod Tests
pub mod Certificate
pub mod Settled
