pub mod Exact
pub mod Fits
pub mod Forms
pub mod Refusals
pub mod Steps
pub mod Took
pub mod Underivable
pub mod Verdict
