pub mod Net
pub mod LentNet
