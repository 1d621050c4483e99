pub mod Nothing
pub mod Kept
pub mod Deltas
pub mod Others
pub mod Each
pub mod Demand1
pub mod Memories
