pub mod GridBytes
pub mod Cases
pub mod Places
pub mod Told
