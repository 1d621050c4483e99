pub mod Left
pub mod Keeps
pub mod Lent
pub mod Cut
