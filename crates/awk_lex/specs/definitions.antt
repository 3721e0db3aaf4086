-- What a reader has to believe: the spelling of tokens, what a text is as tokens, and what reading answers.
pub mod Refused
pub mod Escapes
pub mod Tables
pub mod Words
pub mod Lexes
pub mod Told
