pub mod Holding
pub mod Leasing
pub mod Lent
pub mod Owning
pub mod Ruling
pub mod Written
