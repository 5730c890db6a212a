-- The messages that steps 3 to 6 take: `Forms` those of 3 and 6, `Grant` that of 4, `Delivery` that of 5, a ticket and an authenticator.
-- proofs/Promises is to be read first.
pub mod Forms
pub mod Grant
pub mod Delivery
