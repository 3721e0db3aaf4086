-- What only serves the proofs.
pub mod Lexeme
pub mod Reading
