-- A step decided whole. The contract of `decide` has all of it: the verdict is `decision` of decisions/Decision, and where it takes the
-- step, `Decided` says what can be written. `Laid` says that what is laid out is what is sent.
pub mod Decided
pub mod Layout
