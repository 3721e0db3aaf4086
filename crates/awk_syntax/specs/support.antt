pub mod PartFrames
pub mod Ending
pub mod Answered
pub mod Stopped
