mod Numbers
pub mod Tails
