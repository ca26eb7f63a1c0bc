pub mod Attempts
pub mod Trying
pub mod Turn
