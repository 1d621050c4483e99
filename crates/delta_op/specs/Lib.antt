pub mod Places
pub mod Plain
