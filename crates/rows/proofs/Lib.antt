pub mod Promises
pub mod Row
pub mod Rows
pub mod Runs
