pub mod Found
pub mod Searched
pub mod Entry
pub mod Placed
pub mod Halves
pub mod Held
pub mod Located
pub mod Reading
