-- What only proofs need.
pub mod Forms
-- What serves the proofs: how the code keeps an array, its keys and what is kept at them.
pub mod Texts
pub mod Rows
pub mod StampOrder
pub mod Entries
pub mod DenseKeys
pub mod Lending
