pub mod Encoded
pub mod Rows
pub mod Sound
pub mod Keeps
pub mod ToldFits
pub mod LentKept
