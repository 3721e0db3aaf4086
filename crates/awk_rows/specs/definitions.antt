pub mod Outside
pub mod Row
pub mod Refusal
