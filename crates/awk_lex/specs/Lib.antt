-- What a reader has to believe stands in `definitions`; what only serves the proofs stands in `support`.
pub mod definitions
pub mod support
pub use Rattle.awk_lex.specs.definitions.Refused
pub use Rattle.awk_lex.specs.definitions.Escapes
pub use Rattle.awk_lex.specs.definitions.Tables
pub use Rattle.awk_lex.specs.definitions.Words
pub use Rattle.awk_lex.specs.definitions.Lexes
pub use Rattle.awk_lex.specs.definitions.Told
