pub mod LentWorld
pub mod LentDemand3
pub mod Runs
pub mod Closing
pub mod Start
pub mod Planner
pub mod OneProfile
