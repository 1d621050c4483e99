pub mod Datagrams
pub mod FewNodes
pub mod Refusing
pub mod Exchanging
pub mod Told
