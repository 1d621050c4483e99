pub mod Over
pub mod Told
