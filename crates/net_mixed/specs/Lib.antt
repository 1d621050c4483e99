pub mod Mixed
pub mod LentMixed
