pub mod Clients
pub mod Doings
