pub mod HandLemmas
mod Keeps
pub mod LawsLeft
mod LawsNext
mod LawsOneOrder
mod LawsOrder
pub mod LawsOwn
mod LawsPassing
mod LawsStays
mod LawsTold
mod LawsUntil
mod LentLemmas
pub mod RestsOnLemmas
mod Views
