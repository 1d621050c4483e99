pub mod Rows
pub mod Columns
pub mod ToldSmall
pub mod Watched
