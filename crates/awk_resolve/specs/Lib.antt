-- What serves the proofs.
pub mod support
pub use Rattle.awk_resolve.specs.support.Nodes
pub use Rattle.awk_resolve.specs.support.States
pub use Rattle.awk_resolve.specs.support.Plans
pub use Rattle.awk_resolve.specs.support.Builds
pub use Rattle.awk_resolve.specs.support.Scopes
