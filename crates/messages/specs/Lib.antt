pub mod Promises
pub mod Entered
pub mod Standing
pub mod Listed
pub mod Meanings
pub mod Plan
pub mod Lent
pub mod Parts
