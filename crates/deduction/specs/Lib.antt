-- What the intruder can derive. proofs/Promises is to be read first.
pub mod Derives
pub mod Secrecy
pub mod Public
pub mod Known
pub mod Opens
