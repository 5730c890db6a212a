pub mod Promises
pub mod Row
pub mod Runs
pub mod Rows
