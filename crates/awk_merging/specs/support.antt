pub mod CellKeys
pub mod Kept
pub mod Lines
pub mod SumsOf
pub mod WithSums
pub mod Others
