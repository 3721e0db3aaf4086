mod OfNumbers
mod PatternFinds
mod ReadsFor
pub mod Orders
