-- What serves the proofs.
pub mod Boundary
pub mod Found
pub mod Viewed
