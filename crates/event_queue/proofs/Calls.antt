-- Steps of a queue that no crate above proves of its own: exchanges, entries taken out or changed, runs, and how many visits there are at most.
pub mod Exchanges
pub mod Runs
pub mod Bounds
pub mod Taken
