pub mod Errors
pub mod Making
pub mod Once
pub mod Queued
pub mod Rounds
pub mod Watched
