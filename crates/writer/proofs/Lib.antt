pub mod Progress
pub mod Write
