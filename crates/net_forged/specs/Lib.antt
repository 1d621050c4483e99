pub mod Forged
pub mod Mine
