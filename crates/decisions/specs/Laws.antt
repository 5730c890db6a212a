-- The decision turned round: what a step that is taken has met (Took, Verdict), that one that has met it is taken (Exact) and that
-- its effect is such as the tables can hold (Fits); what goes by the form singly (Forms); which refusals a step can have (Refusals), and
-- when it has 15 (Underivable).
pub mod Forms
pub mod Took
pub mod Fits
pub mod Underivable
