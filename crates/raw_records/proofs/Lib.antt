pub mod Apart
pub mod Calls
pub mod Capped
pub mod Fit
pub mod Passing
pub mod Promises
pub mod RawLaws
pub mod Refusals
