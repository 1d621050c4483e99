pub mod Order
pub mod TwoRuns
pub mod Readings
pub mod LentRuns
