pub mod Histories
pub mod Secrecy
