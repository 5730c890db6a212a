-- One layer of a message, and chains of layers. proofs/Promises is to be read first.
pub mod Layers
pub mod Present
