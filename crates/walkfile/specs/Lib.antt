pub mod Promises
pub mod Listing
pub mod Walking
pub mod Traced
pub mod HdListing
