pub mod Arranged
pub mod Above
