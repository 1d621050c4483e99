pub mod Lined
pub mod Asking
