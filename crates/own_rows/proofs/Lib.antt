pub mod Parted
pub mod First
pub mod Laws
pub mod Keys
pub mod Tables
