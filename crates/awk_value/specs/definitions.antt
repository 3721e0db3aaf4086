-- What a reader has to believe.
pub mod Arithmetic
pub mod Numbers
pub mod Values
pub mod Arrays
pub mod Lending
