pub mod Opening
pub mod Input
pub mod Fields
pub mod Tables
pub mod Header
pub mod Check
pub mod New
