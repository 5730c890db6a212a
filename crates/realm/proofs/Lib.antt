pub mod Check
pub mod Fields
pub mod HeaderLaws
pub mod InputLaws
pub mod New
pub mod Opening
pub mod Promises
