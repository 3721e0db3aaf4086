-- What a reader has to believe.
pub mod Log
pub mod WorldState
pub mod Oracle
pub mod Orderly
pub mod Writes
pub mod Openings
pub mod Grows
pub mod Script
pub mod ScriptAnswers
pub mod ScriptOf
