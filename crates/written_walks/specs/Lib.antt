-- The laws of a walk that was written. proofs/Promises is to be read first.
pub mod Stands
pub mod ReadBack
