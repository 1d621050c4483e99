pub mod Coming
pub mod Remembering
