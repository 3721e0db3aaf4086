pub mod definitions
pub mod support
