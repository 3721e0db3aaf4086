-- What serves the proofs.
pub mod Appends
pub mod Builds
pub mod Scopes
pub mod Operands
pub mod Parts
pub mod Readings
pub mod Calls
pub mod Printed
pub mod Holding
pub mod Targets
pub mod Exchanges
pub mod Nodes
pub mod States
pub mod Plans
