pub mod Hearing
pub mod Forcing
pub mod Acts
pub mod Loops
pub mod Operations
pub mod Keeping
