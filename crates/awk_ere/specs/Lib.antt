pub mod definitions
pub mod support
pub use Rattle.awk_ere.specs.definitions.Means
pub use Rattle.awk_ere.specs.support.Table
pub use Rattle.awk_ere.specs.definitions.Tree
pub use Rattle.awk_ere.specs.definitions.Limits
