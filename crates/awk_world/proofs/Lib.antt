pub mod ConsistencyLemmas
pub mod Exist
pub mod ScriptLemmas
