pub mod Decided
pub mod Kept
pub mod Promises
