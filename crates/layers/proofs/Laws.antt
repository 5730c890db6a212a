pub mod Layers
pub mod Present
pub mod Ways
