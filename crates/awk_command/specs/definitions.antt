pub mod CommandLine
pub mod Invocation
pub mod ProgramText
pub mod Report
