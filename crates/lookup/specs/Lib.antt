pub mod Lookup
pub mod Told
