pub mod Accepted
pub mod Numbers
