pub mod First
pub mod Placed
pub mod Sums
pub mod Turns
