-- What a reader has to believe.
pub mod Opened
pub mod Commands
pub mod Files
