pub mod PartFaults
pub mod Outside
pub mod Results
pub mod Keeps
pub mod LawOfKeeping
pub mod Exchanged
pub mod Unended
