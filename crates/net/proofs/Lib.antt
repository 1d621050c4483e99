pub mod Owners
pub mod Coming
pub mod Moments
pub mod Each
pub mod Pairs
pub mod Safe
pub mod LentNet
