-- What every protocol shares. proofs/Promises is to be read first.
pub mod Lists
pub mod Realm
pub mod Terms
pub mod Places
pub mod Logs
pub mod Conditions
pub mod RuleSets
pub mod Engines
pub mod Rows
pub mod Secrets
pub mod Origins
pub mod Laws
