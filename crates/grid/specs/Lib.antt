pub mod Grid
pub mod GridLayout
pub mod Careful
pub mod LentGrid
