pub mod Examples
pub mod Promises
pub mod ReadBack
pub mod Stands
