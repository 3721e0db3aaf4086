pub mod Stacks
pub mod Resting
pub mod Moving
pub mod Changing
pub mod NodeMoves
pub mod Parts
pub mod OperandPrints
pub mod OperandLines
pub mod Fields
pub mod QuickValues
pub mod AppliedValues
pub mod Joining
pub mod Substituting
pub mod Quickly
pub mod QuickMoves
pub mod ReadFields
pub mod CallMoves
pub mod Returning
pub mod KeysTaken
pub mod Arguments
pub mod CallBegins
pub mod Computing
pub mod SoundPlans
mod Appending
mod Asking
mod Keys
