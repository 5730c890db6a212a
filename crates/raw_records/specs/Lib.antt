-- The list of records that is handed in, and what turns one away. proofs/Promises is to be read first.
pub mod Raw
pub mod Refusals
pub mod Calls
pub mod Capped
pub mod Fit
pub mod Apart
