-- What the fields of a line are, and what writing one does to a buffer. proofs/Promises is to be read first.
pub mod Bytes
pub mod Fields
pub mod Placed
pub mod Lengths
