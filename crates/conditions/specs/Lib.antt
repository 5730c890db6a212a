-- The conditions that steps share. proofs/Promises is to be read first.
pub mod Conditions
