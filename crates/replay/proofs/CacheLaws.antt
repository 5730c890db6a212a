pub mod Calls
pub mod Entries
pub mod Pass
pub mod Places
pub mod Turn
