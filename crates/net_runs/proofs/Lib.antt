pub mod Stories
pub mod Runs
pub mod Losses
pub mod Locked
pub mod Witnesses
pub mod Gateways
