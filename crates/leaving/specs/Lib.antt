pub mod Leaving
pub mod Cut
