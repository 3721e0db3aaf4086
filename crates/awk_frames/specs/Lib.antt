-- What serves the contracts: checked trees seen as trees of the grammar, or none where they are too high.
pub mod support
pub use Rattle.awk_frames.specs.support.CheckedExpressions
pub use Rattle.awk_frames.specs.support.CheckedStatementNodes
-- What serves the contracts: what the code keeps, seen as what the parser over lists does.
pub use Rattle.awk_frames.specs.support.FrameView
