pub mod Patterns
pub mod Outcome
pub mod Lines
