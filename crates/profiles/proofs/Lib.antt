pub mod Reading
pub mod Counts
pub mod Shared
pub mod Kept
pub mod Order
pub mod Lawful
pub mod Sent
