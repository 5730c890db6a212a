pub mod Apply
pub mod Cache
pub mod Row
