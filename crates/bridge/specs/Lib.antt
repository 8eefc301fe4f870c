-- ---- calls of the layer, one after another
pub mod Calls
pub mod Replays
