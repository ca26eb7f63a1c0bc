pub mod Awaited
pub mod Losses
