-- Two texts side by side. proofs/Promises is to be read first.
pub mod Compare
