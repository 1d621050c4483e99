pub mod Split
pub mod Times
