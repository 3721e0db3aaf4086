pub mod CommandLineLemmas
pub mod InvocationLemmas
pub mod ProgramTextLemmas
pub mod ReportLemmas
