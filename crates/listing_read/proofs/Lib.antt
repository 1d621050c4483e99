pub mod Forms
pub mod Pieces
pub mod Lines
pub mod Unlisted
pub mod Relisted
