pub mod NodeDeltas
