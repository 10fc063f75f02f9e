pub mod Plainly
pub mod Receives
