pub mod Removing
pub mod Within
