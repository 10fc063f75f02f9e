pub mod Ghosts
pub mod Number
