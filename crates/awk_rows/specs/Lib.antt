-- What a reader has to believe of the rows, beside what text is which program and what that means.
pub mod definitions
