pub mod Owned
pub mod Witnesses
pub mod Mine
pub mod Silent
