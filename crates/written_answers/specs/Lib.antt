-- What the engine answers to the records of a walk that was written. proofs/Promises is to be read first.
pub mod Promises
pub mod Answers
pub mod Walks
