-- The Kerberos exchange and demand 3. proofs/Theorems is to be read first.
pub mod Messages
pub mod Log
pub mod Rules
pub mod Reading
pub mod Words
pub mod Agreement
pub mod Entries
