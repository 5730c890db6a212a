pub mod Decide
pub mod Plan
pub mod Settle
