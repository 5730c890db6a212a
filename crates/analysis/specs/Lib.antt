-- What is found on the wire. The contract of `saturate` is `Filled`, of the crate deduction; Gives has what a term gives.
pub mod Gives
