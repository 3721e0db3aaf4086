pub mod support
pub use Rattle.awk_functions.specs.support.Matched
pub use Rattle.awk_functions.specs.support.Spelling
pub use Rattle.awk_functions.specs.support.Compiled
pub use Rattle.awk_functions.specs.support.Kept
pub use Rattle.awk_functions.specs.support.Numbers
pub use Rattle.awk_functions.specs.support.Written
