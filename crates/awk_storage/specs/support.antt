-- What serves the proofs: how the code keeps the special variables, the parameters of the active calls, and the arrays.
pub mod Entered
pub mod Frames
pub mod SpecialValues
pub mod Tables
pub mod Lending
pub mod Positions
pub mod Forms
pub mod Control
pub mod Subscripts
