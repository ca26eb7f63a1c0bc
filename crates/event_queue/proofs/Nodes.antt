-- How a chain keeps its entries on nodes.
pub mod Slots
pub mod Lookups
pub mod ChainSteps
pub mod Takes
