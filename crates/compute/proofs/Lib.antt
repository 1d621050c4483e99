pub mod Behind
pub mod Lining
pub mod Whole
pub mod Calling
