pub mod Heard
pub mod Reached
pub mod Waiting
pub mod Wanting
