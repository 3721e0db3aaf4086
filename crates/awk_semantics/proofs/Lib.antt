pub mod ChosenMatches
pub mod Forms
pub mod Keeping
pub mod KeepsForms
pub mod KeepsOutside
mod Larger
mod LargerForms
mod LargerParts
pub mod LawOfLimits
pub mod OwnOutcomes
pub mod OwnValues
pub mod PlainParts
pub mod PlainRuns
pub mod PositionDecided
pub mod Requests
pub mod UnendedRuns
