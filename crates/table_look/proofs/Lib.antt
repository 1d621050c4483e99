mod Shown
pub mod Stored
