pub mod LimitedNodes
pub mod CheckedLists
pub mod Reductions
