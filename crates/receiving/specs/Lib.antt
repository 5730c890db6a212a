-- The laws by which the steps that take a message meet their contracts, which answer `issues`, `authenticates`, `takes` and `finishes`
-- of decisions/Decision.
pub mod Pending
