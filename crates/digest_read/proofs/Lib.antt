pub mod Places
pub mod Counts
pub mod Telling
pub mod Pairs
pub mod Gathering
pub mod Reading
pub mod Ascending
pub mod Values
