pub mod Added
pub mod Kept
pub mod Laws
pub mod Numbers
pub mod Older
pub mod Promises
pub mod ThinCalls
