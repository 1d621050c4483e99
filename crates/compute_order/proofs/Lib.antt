pub mod Lined
pub mod Ranks
