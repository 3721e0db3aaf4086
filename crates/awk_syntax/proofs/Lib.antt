mod ItemLists
mod OtherItemTokens
pub mod DoBodies
pub mod ForParts
pub mod OtherStatementTokens
pub mod StatementLists
pub mod AloneStatements
pub mod OtherSimpleTokens
pub mod TokensInTurn
pub mod WhereStopped
pub mod LeftmostRefused
pub mod AnswersJustified
pub mod WhereRefused
