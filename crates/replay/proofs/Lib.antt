pub mod CacheLaws
pub mod Promises
