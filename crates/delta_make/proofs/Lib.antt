pub mod Whole
pub mod Steps
pub mod Taken
pub mod Text
pub mod Holding
