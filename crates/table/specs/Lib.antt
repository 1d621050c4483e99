pub mod Tests
pub mod Places
pub mod Fits
pub mod Changes
