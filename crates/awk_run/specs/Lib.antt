-- What a reader believes: which texts are programs, and what a run of one leaves.
pub mod definitions
-- What serves the contracts.
pub mod support
pub use Rattle.awk_run.specs.definitions.Accepted
pub use Rattle.awk_run.specs.definitions.Runs
pub use Rattle.awk_run.specs.definitions.Headline
pub use Rattle.awk_run.specs.definitions.Start
pub use Rattle.awk_semantics.specs.Meaning
pub use Rattle.awk_semantics.specs.Outcome
