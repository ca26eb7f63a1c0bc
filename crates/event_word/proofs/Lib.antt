pub mod QueuesLemmas
pub mod WordKeeps
pub mod FreeLemmas
pub mod MoveLemmas
pub mod EasesLemmas
pub mod Placing
