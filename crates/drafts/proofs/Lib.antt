pub mod Draft
pub mod Promises
pub mod Writes
