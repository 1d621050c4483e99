pub mod Formed
pub mod Odd
