-- what serves the proofs
pub mod support
pub use Rattle.awk_storage.specs.support.Positions
pub use Rattle.awk_storage.specs.support.Forms
pub use Rattle.awk_storage.specs.support.Control
pub use Rattle.awk_storage.specs.support.Subscripts
