pub mod Merged
pub mod Turns
pub mod Told
pub mod Stated
