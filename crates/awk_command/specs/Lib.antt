pub mod definitions
pub mod support
pub use Rattle.awk_command.specs.definitions.CommandLine
pub use Rattle.awk_command.specs.definitions.Invocation
pub use Rattle.awk_command.specs.definitions.ProgramText
pub use Rattle.awk_command.specs.definitions.Report
pub use Rattle.awk_command.specs.support.Parts
