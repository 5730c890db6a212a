pub mod Formats
pub mod Forms
pub mod Needs
