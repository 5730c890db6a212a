-- What a step comes to: its effect, or the number of its refusal. proofs/Promises is to be read first.
pub mod Effects
pub mod Decision
pub mod Refusals
pub mod Laws
