pub mod Wrong
