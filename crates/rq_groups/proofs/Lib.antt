pub mod Chained
pub mod Clients
pub mod Holders
pub mod Orders
pub mod Sents
pub mod Tails
pub mod Waits
