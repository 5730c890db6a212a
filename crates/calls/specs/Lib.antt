-- The public calls on the caller's own tables. proofs/Promises is to be read first.
pub mod Lent
pub mod Lists
pub mod Known
