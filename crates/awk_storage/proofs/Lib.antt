mod Counting
mod Digits
mod Filling
mod FrameLemmas
mod Heights
mod Lent
pub mod ItemLemmas
mod SpecialLemmas
mod TableLemmas
