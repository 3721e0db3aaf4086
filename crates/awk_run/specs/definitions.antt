pub mod Accepted
pub mod Runs
pub mod Headline
pub mod Start
