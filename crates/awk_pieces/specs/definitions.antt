pub mod Pieceable
pub mod LawOfPieces
