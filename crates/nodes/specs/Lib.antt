pub mod New
pub mod Coming
