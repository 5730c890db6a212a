-- Laws of any rule set: from histories to logs, and what can be derived.
pub mod Secrecy
