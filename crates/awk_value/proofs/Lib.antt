pub mod CutOfCut
pub mod DigitsPastRange
pub mod FewDigits
pub mod Powers
pub mod RangeIsInt128
mod Rows
mod ByStamp
mod OneEntry
mod Counts
mod Moves
mod Int64
mod Decimals
mod Words
mod Worth
mod NamedKeys
mod NumbersAndTexts
mod Joined
mod Places
mod BothNumbers
mod Calls
mod Lent
mod PaddedEnd
mod KeptKeys
mod KeyBlocks
mod PackedEnd
