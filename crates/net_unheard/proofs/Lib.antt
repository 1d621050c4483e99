pub mod Unheard
