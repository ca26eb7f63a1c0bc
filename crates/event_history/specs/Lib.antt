pub mod Hands
pub mod History
pub mod Laws
pub mod Lock
pub mod Queue
pub mod Rule
pub mod Waiting
