pub mod Acceptance
pub mod Conditions
pub mod EarlyForget
pub mod Forwarding
