pub mod Progress
pub mod Promises
pub mod ReadingLaws
pub mod Rewriting
