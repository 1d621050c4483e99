pub mod Called
pub mod Letting
pub mod Asking
