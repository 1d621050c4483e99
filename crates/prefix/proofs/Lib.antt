mod Run
mod Counted
pub mod Hits
pub mod Seen
pub mod Rows
