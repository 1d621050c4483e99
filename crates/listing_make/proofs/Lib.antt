pub mod Placing
pub mod Numbers
