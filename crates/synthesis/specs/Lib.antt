-- The derivability test. proofs/Promises is to be read first.
pub mod Sweep
pub mod Compose
pub mod Test
pub mod Knowledge
pub mod All
pub mod Lent
