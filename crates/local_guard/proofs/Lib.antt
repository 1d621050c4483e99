pub mod Guarding
pub mod Sharing
