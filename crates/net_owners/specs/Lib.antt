pub mod Owners
pub mod LentOwners
