pub mod ShownPeers
