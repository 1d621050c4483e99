mod Keyed
pub mod Elements
pub mod InRows
pub mod Told
