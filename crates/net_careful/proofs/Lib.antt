pub mod Safe
pub mod LentSafe
pub mod Telling
