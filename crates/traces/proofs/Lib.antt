pub mod Conditions
pub mod Laws
pub mod Lists
pub mod Logs
pub mod Promises
pub mod Rows
pub mod Sample
pub mod Secrets
