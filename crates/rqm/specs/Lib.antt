pub mod Changing
pub mod Holding
