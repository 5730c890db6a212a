-- What the lines of the listing are, and how long. proofs/Promises is to be read first.
pub mod Lines
