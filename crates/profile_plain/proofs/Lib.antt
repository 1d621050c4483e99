pub mod Freed
pub mod Guarded
pub mod Grids
pub mod Applying
pub mod Exchanging
pub mod Demand2
pub mod Differs
