pub mod Overrides
pub mod Both
