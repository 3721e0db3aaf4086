-- What serves the proofs.
pub mod Stretch
pub mod MarksLeft
pub mod ChosenSeparators
pub mod Faults
pub mod Splitters
pub mod Escapes
pub mod Search
-- What the proofs need beside.
pub mod Begun
