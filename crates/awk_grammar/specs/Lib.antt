-- What a reader believes: trees, their heights, the code's tree seen as one of them, the table of precedence, and how
-- a tree is spelled.
pub mod definitions
-- What serves the proofs: the parser over lists, with trees kept up to a height alone and with whole ones.
pub mod support
pub use Rattle.awk_grammar.specs.definitions.Tree
pub use Rattle.awk_grammar.specs.definitions.View
pub use Rattle.awk_grammar.specs.definitions.Height
pub use Rattle.awk_grammar.specs.definitions.Precedence
pub use Rattle.awk_grammar.specs.definitions.Arguments
pub use Rattle.awk_grammar.specs.definitions.OperandsAllowed
pub use Rattle.awk_grammar.specs.definitions.StatementsAllowed
pub use Rattle.awk_grammar.specs.definitions.SpellingOfExpressions
pub use Rattle.awk_grammar.specs.definitions.SpellingOfStatements
pub use Rattle.awk_grammar.specs.definitions.Spelling
pub use Rattle.awk_grammar.specs.definitions.Answer
pub use Rattle.awk_grammar.specs.support.Parser
