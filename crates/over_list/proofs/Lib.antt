pub mod Told
pub mod Laying
pub mod Turning
pub mod Listed
pub mod Empty
