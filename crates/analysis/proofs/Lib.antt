pub mod Along
pub mod Explore
pub mod Gives
