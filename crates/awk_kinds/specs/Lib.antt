pub mod definitions
pub mod support
pub use Rattle.awk_kinds.specs.definitions.Variables
pub use Rattle.awk_kinds.specs.definitions.Names
-- What serves the proofs.
pub use Rattle.awk_kinds.specs.definitions.SpecialNames
pub use Rattle.awk_kinds.specs.definitions.Placed
pub use Rattle.awk_kinds.specs.definitions.Kinds
pub use Rattle.awk_kinds.specs.definitions.NameUses
pub use Rattle.awk_kinds.specs.definitions.Fits
pub use Rattle.awk_kinds.specs.definitions.Signatures
pub use Rattle.awk_kinds.specs.definitions.OfValues
