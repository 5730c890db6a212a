pub mod Bits
pub mod Marks
pub mod Within
pub mod Parts
pub mod Sets
