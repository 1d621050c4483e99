pub mod Blind
pub mod Linked
pub mod Calls
pub mod Fronts
