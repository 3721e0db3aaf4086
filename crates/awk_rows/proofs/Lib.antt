pub mod Reading
pub mod Computing
pub mod Refusing
