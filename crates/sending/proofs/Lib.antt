pub mod Accepted
pub mod Entering
pub mod Full
pub mod Marking
pub mod Planned
pub mod Promises
