-- Drafts of messages. proofs/Promises is to be read first.
pub mod Draft
pub mod Writes
