-- The records of a walk file, read from its bytes. proofs/Promises is to be read first.
pub mod Fields
pub mod Headers
pub mod Records
pub mod Calls
