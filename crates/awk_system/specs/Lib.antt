pub mod definitions
pub mod support
pub use Rattle.awk_system.specs.definitions.Opened
