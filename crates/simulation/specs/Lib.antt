-- The tables and the exchange side by side, and so demand 3 of every list of calls. Laws only; proofs/Promises is to be read first.
pub mod Values
pub mod Engine
pub mod Unread
pub mod Told
pub mod Exact
pub mod Underivable
pub mod Ahead
pub mod Cases
