pub mod Handing
pub mod Owners
pub mod LentOwners
pub mod Runs
