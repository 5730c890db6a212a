-- What reading a walk file and writing it back comes to. proofs/Promises is to be read first.
pub mod Promises
pub mod Reading
pub mod Rewriting
