pub mod Bytes
pub mod Decimal
pub mod Lengths
pub mod Parts
pub mod Placed
pub mod Promises
