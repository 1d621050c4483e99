pub mod Same
pub mod Told
pub mod Long
