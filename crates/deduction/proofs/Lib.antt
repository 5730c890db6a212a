pub mod Known
pub mod Opens
pub mod Promises
pub mod Public
pub mod Secrecy
pub mod Synth
