-- The messages that steps send. proofs/Promises is to be read first.
pub mod Drafts
