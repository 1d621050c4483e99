pub mod Plan
pub mod Faults
