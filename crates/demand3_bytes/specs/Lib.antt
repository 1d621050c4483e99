pub mod LentWorld
pub mod LentDemand3
pub mod Runs
