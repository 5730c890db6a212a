-- What reading into a buffer keeps, and what it adds.
pub mod Reads
