-- What serves the proofs.
pub mod StandardOutputs
