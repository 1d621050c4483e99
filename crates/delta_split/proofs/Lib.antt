pub mod Cutting
pub mod Each
pub mod Parts
pub mod LentParts
pub mod Times
pub mod OwnTimes
