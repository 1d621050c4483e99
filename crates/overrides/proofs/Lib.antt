pub mod Valid
pub mod Both
pub mod Calls
pub mod Keeps
