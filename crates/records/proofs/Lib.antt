pub mod Calls
pub mod Fields
pub mod Headers
pub mod Promises
pub mod Records
