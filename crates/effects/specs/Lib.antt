pub mod Apply
pub mod Call
pub mod Row
pub mod Cache
