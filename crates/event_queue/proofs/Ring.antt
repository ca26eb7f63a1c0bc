-- A ring of nodes in memory, and the walks that follow its pointers.
pub mod Places
pub mod Walks
pub mod Blocks
pub mod Opened
pub mod Sharing
pub mod Crossing
