pub mod Stories
pub mod Runs
pub mod Witnesses
