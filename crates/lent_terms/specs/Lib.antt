-- The public calls on a lent term table.
pub mod Lent
