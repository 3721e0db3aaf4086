-- What a reader has to believe.
pub mod Functions
pub mod Pieces
pub mod Fields
pub mod Separators
pub mod Chosen
pub mod Replaced
pub mod Replacement
pub mod Directives
pub mod Formatted
pub mod Reading
