pub mod Choice
pub mod Numbers
pub mod Parts
pub mod Blocks
pub mod Widths
pub mod Order
