-- What serves the proofs.
pub mod ScriptStreams
