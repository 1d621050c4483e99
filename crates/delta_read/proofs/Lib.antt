pub mod Steps
pub mod Following
pub mod Counted
pub mod NodeDeltas
