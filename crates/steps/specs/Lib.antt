-- The laws by which the steps meet their contracts, which answer `step_of` and `decided` of decisions/Decision.
pub mod Named
