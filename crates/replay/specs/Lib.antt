-- Read first: `Cache`, the definitions, a page; then `Promises`, what they mean for the entries and for every place.
pub mod Cache
pub mod Promises
