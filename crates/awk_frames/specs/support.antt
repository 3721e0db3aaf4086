pub mod CheckedExpressions
pub mod CheckedStatementNodes
pub mod FrameView
pub mod Ended
pub mod Held
