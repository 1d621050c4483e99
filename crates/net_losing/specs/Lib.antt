pub mod Losing
pub mod LentLosing
pub mod Back
