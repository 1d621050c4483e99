pub mod Unlist
