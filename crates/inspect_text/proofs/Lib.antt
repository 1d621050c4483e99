pub mod There
pub mod Same
