pub mod Planned
pub mod Follows
pub mod Verdict
pub mod Assigned
pub mod Passing
pub mod Programs
