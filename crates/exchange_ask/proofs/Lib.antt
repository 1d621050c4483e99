mod Asking
pub mod Mapped
