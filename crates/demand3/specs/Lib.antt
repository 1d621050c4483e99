pub mod Forms
pub mod World
pub mod Demand3
