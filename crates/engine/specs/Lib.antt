-- The laws by which a call meets its contract, which has the answer and every table afterwards: `called` and `checked` of
-- effects/Call.
pub mod Call
