-- What clauses of recorded events cite.
pub mod Step
pub mod Replay
pub mod State
pub mod Exchange
pub mod Calls
pub mod Wait
pub mod WaitSteps
pub mod Run
