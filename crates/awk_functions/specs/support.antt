pub mod Compiled
pub mod Kept
pub mod Numbers
pub mod Written
pub mod Matched
pub mod Spelling
