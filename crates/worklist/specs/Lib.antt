-- The terms found, and the encryptions under each key.
pub mod Chains
pub mod Found
