-- What serves the proofs.
pub mod Operands
pub mod Rest
pub mod Moves
pub mod Walks
pub mod Calling
pub mod Reading
pub mod Quick
pub mod Lines
pub mod Applied
pub mod Appending
pub mod Elements
