pub mod Said
pub mod Pieces
pub mod Numerals
pub mod Stored
