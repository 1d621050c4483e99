pub mod Linked
pub mod Calls
